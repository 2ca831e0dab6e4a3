-- Proofs of commits: what they show, and that they are proofs of one operation.
use Rattle.std.proofs.Common.{◌≡◌, ℕ, zero, suc, ◌-◌, ◌<◌, ◌≤◌, ◌==◌, ◌||◌, Bool, true, false, List, [], ◌∷◌, length, take, drop, Option, Some, None, refl, subst, arith}
use Rattle.std.specs.Prelude.{not, nat_lt, nat_le, is_none, IsSome, Contains}
use Rattle.std.specs.List.{list_any}
use Rattle.std.specs.NonZero.{non_zero_u64_get}
use Rattle.std.specs.declared.num.NonZeroU64.{NonZeroU64}
use Rattle.std.proofs.lemmas.Bool.Decides.{nat_tests}
use Rattle.tree_shape.specs.Mmr.{mmr}
use Rattle.tree_shape.specs.declared.bagging.Bagging.TheVariants.{ForwardFold}
use Rattle.tree_proof.specs.Check.{Checks}
use Rattle.log_model.specs.Meaning.{Meaning}
use Rattle.log_model.specs.Good.{EndsWithCommit, IsGood, AnyList}
use Rattle.log_model.specs.Machine.{State}
use Rattle.log_model.specs.Proofs.{size_refusal, lacks_commit, proof_refusal, commit_proof_refusal, proof_end}
use Rattle.log_model.specs.Reads.{or_else, refuse_if}
use Rattle.log_model.specs.declared.refusal.Refusal.{Refusal}
use Rattle.log_model.proofs.LogLemmas.{ends_at}
use Rattle.log_model.proofs.OpeningLemmas.{applied_some}
use Rattle.command_text.specs.declared.command.Answer.TheVariants as answer
use Rattle.command_text.specs.declared.command.Command.TheVariants as command
use Rattle.command_text.specs.declared.command.ProofAnswer.{ProofAnswer}
use Rattle.list_machine.specs.Config.{Config}
use Rattle.list_machine.specs.GoodRuns.{IsGoodState}
use Rattle.list_machine.specs.Laws.{CommitProofsAreProofs, CommitProofsVerify}
use Rattle.list_machine.specs.Operation.{Operation, meaning, sha}
use Rattle.list_machine.specs.Step.{plain_commit, step, proof_here, unless, root_of_list}
use Rattle.list_machine.proofs.VerifyLemmas.{AnswersVerify, some_count}

-- ---- tests that pass

none_first : (a b : Option Refusal) → or_else a b ≡ None → (a ≡ None) × (b ≡ None)
none_first None b e = (refl, e)
none_first (Some r) b e = absurd cc

was_true : (b : Bool) (why : Refusal) → refuse_if (not b) why ≡ None → b ≡ true
was_true true why e = refl
was_true false why e = absurd cc

passes : (b : Bool) (why : Refusal) → b ≡ false → refuse_if b why ≡ None
passes true why e = absurd cc
passes false why e = refl

all_none : (a b c d e : Option Refusal) → a ≡ None → b ≡ None → c ≡ None → d ≡ None → e ≡ None
    → or_else a (or_else b (or_else c (or_else d e))) ≡ None
all_none a b c d e p q r s t = rw (p, q, r, s) t

not_below : (m n : ℕ) → n ≤ m → nat_lt m n ≡ false
not_below m n le = grind (arith, nat_tests)

not_within : (m n : ℕ) → n < m → nat_le m n ≡ false
not_within m n lt = grind (arith, nat_tests)

is_equal : (m n : ℕ) → (m == n) ≡ true → m ≡ n
is_equal m n e = grind (arith, nat_tests)

-- what is found behind some is one of all
has_size : (n k : ℕ) (ns : List ℕ) → list_any (λ x. x == n) (drop k ns) ≡ true → Contains ns n
has_size n zero [] e = absurd cc
has_size n (suc k) [] e = absurd cc
has_size n zero (x ∷ ns) e = pick (λ f. has_size n zero ns f) (x == n) refl e
  where
    pick : (list_any (λ y. y == n) ns ≡ true → Contains ns n) → (b : Bool) → (x == n) ≡ b
        → (b || list_any (λ y. y == n) ns) ≡ true → Contains (x ∷ ns) n
    pick more true is e = (0, omega arith, is_equal x n is)
    pick more false is e = let c = more e in (suc c.0, omega (arith, c.1), c.2)
has_size n (suc k) (x ∷ ns) e = let c = has_size n k ns e in (suc c.0, omega (arith, c.1), c.2)

some_there : (floor : Option ℕ) → IsSome floor → is_none floor ≡ false
some_there (Some n) some = refl
some_there None some = absurd cc

module _ {Op V : Type 0} (m : Meaning Op V) (among : List Op → Type 0) (allowed : V → Type 0) (first : Op) where
  ends : (list : List Op) → EndsWithCommit m list → lacks_commit m list ≡ false
  ends [] e = absurd e
  ends (op ∷ []) e = some_there (m.floor op) e
  ends (op ∷ next ∷ ops) e = ends (next ∷ ops) e

  -- where a commit is proved, and is kept, the proof of it alone isn't refused
  commit_passes : (s : State Op) (n start : ℕ) → IsGood m among allowed first s → start < n
      → commit_proof_refusal s.ops (drop s.wstart s.sizes) n ≡ None → proof_refusal m s.ops start n (n - 1) ≡ None
  commit_passes s n start g low e =
      let two = none_first (size_refusal s.ops n) _ e in
      let there = has_size n s.wstart s.sizes (was_true _ _ two.1) in
      let some = applied_some (length s.ops) n s.sizes g.log.sizes there in
      let commit = ends_at m among allowed first s.ops s.sizes there.0 n n g.log.commits there.1 there.2 in
      all_none _ _ _ _ _ two.0 (passes _ _ (not_below (n - 1) start (omega (arith, low, some))))
      (passes _ _ (ends (take n s.ops) commit)) (passes _ _ (not_within n (n - 1) (omega (arith, some))))
      (passes _ _ (not_below (n - 1) start (omega (arith, low, some))))

  size_some : (s : State Op) (n : ℕ) → IsGood m among allowed first s
      → commit_proof_refusal s.ops (drop s.wstart s.sizes) n ≡ None → 1 ≤ n
  size_some s n g e =
      let two = none_first (size_refusal s.ops n) _ e in
      applied_some (length s.ops) n s.sizes g.log.sizes (has_size n s.wstart s.sizes (was_true _ _ two.1))

-- the proof of one operation ends at its size
one_ends : (n count : ℕ) → 1 ≤ n → 0 < count → proof_end n (n - 1) count ≡ n
one_ends n count some one = omega (arith, some, one)

-- ---- laws

-- why a commit isn't proved
abbrev why_none : State Operation → ℕ → Option Refusal
why_none s n = commit_proof_refusal s.ops (drop s.wstart s.sizes) n

module _ (config : Config) (s : State Operation) (n : ℕ) (p : ProofAnswer)
    (g : IsGoodState AnyList config.value_limit s) where
  abbrev Answered : Option Refusal → Type 0
  Answered r = (unless s r (answer.Proof (proof_here s n (n - 1) n))).0 ≡ answer.Proof p

  abbrev Shows : ProofAnswer → Type 0
  Shows q = (q.start ≡ n - 1)
      × Checks mmr sha ForwardFold q.proof (n - 1) q.operations (root_of_list (take n s.ops))

  passed : (r : Option Refusal) → why_none s n ≡ r → Answered r
      → (why_none s n ≡ None) × (proof_here s n (n - 1) n ≡ p)
  passed (Some why) refused is = absurd cc
  passed None e is = (e, cc)

  some_size : why_none s n ≡ None → 1 ≤ n
  some_size e = size_some meaning AnyList (λ (v : List ℕ). length v ≤ config.value_limit) plain_commit s n g.good e

  not_refused : (start : ℕ) → start < n → why_none s n ≡ None → proof_refusal meaning s.ops start n (n - 1) ≡ None
  not_refused start low e = commit_passes meaning AnyList (λ (v : List ℕ). length v ≤ config.value_limit) plain_commit
      s n start g.good low e

  is_proof : (count : NonZeroU64) → s.start < n → (step config s (command.CommitProof n)).0 ≡ answer.Proof p
      → (step config s (command.Proof n (n - 1) count)).0 ≡ answer.Proof p
  is_proof count low is =
      let two = passed (why_none s n) refl is in
      let end = one_ends n (non_zero_u64_get count) (some_size two.0) (some_count count) in
      rw (not_refused s.start low two.0, end, two.1) refl

  is_shown : AnswersVerify → (step config s (command.CommitProof n)).0 ≡ answer.Proof p → Shows p
  is_shown law is =
      let two = passed (why_none s n) refl is in
      let some = some_size two.0 in
      let end = one_ends n 1 some (omega arith) in
      let shown = law s.ops 0 n (n - 1) 1 g.good.ops.few (omega arith) (not_refused 0 (omega (arith, some)) two.0) in
      subst Shows two.1 (subst (λ (e : ℕ). Shows (proof_here s n (n - 1) e)) end (refl, shown))

pub commits_are_proofs : CommitProofsAreProofs
commits_are_proofs config s n count p good low is = is_proof config s n p good count low is

pub commits_verified : AnswersVerify → CommitProofsVerify
commits_verified law config s n p good is = is_shown config s n p good law is
