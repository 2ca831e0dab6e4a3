-- The proof of a commit that the compact database serves, as the list machine's.
use Rattle.std.proofs.Common.{◌≡◌, inl, inr, ℕ, zero, suc, ◌-◌, ◌<◌, ◌≤◌, Bool, true, false, ◌||◌, List, [], ◌∷◌, length, map, take, drop, Option, Some, None, Ok, Err, refl, sym, ◌∙◌, ap, subst, arith}
use Rattle.std.specs.Prelude.{◌==◌, not, nat_lt, is_some, slice_get, Result}
use Rattle.std.specs.List.{AllByRecursion}
use Rattle.std.proofs.lemmas.Bool.Decides.{nat_tests}
use Rattle.std.proofs.lemmas.List.{length-take}
use Rattle.codec_base.specs.Parts.{whole}
use Rattle.codec_base.specs.declared.parts.LengthCfg.{LengthCfg}
use Rattle.volume_base.specs.Moments.{Image, present}
use Rattle.volume_base.specs.Volume as volume
use Rattle.volume_base.specs.Volume.{SameContents}
use Rattle.tree_shape.specs.Mmr.{mmr}
use Rattle.tree_shape.specs.Shape.{inactive}
use Rattle.tree_shape.specs.declared.mmr.Mmr.{Mmr}
use Rattle.tree_shape.specs.declared.sha256.Sha256Digest.{Sha256Digest}
use Rattle.tree_proof.specs.Cover.{meets}
use Rattle.tree_proof.specs.SlowProof.{proof_of}
use Rattle.tree_proof.specs.declared.proof.Proof.{Proof}
use Rattle.log_model.specs.Machine.{State}
use Rattle.log_model.specs.Operations.{floor_of, leaves_from}
use Rattle.log_model.specs.Proofs.{proof_answer}
use Rattle.log_model.specs.Reads.{or_else, refuse_if}
use Rattle.log_model.specs.declared.refusal.Refusal.{Refusal}
use Rattle.log_model.specs.declared.refusal.Refusal.TheVariants as refusal
use Rattle.log_model.proofs.OperationLemmas.{length-leaves_from}
use Rattle.target_codec.specs.declared.response.Response.{Response}
use Rattle.target_codec.specs.declared.response.Response.TheVariants.{Operations}
use Rattle.chain_core.specs.Answers.{IsOutside}
use Rattle.chain_core.specs.declared.error.Error.{Error}
use Rattle.compact_db.specs.DbView.{seen_log}
use Rattle.compact_db.specs.Held.{IsSizeOf}
use Rattle.compact_db.specs.Rebuild.{rebuild_answer}
use Rattle.compact_db.specs.Serving.{IsKeptAt, is_kept, has_size, serve_answer, kept_answer, AnswersAs}
use Rattle.compact_db.specs.StateOf.{verified_of}
use Rattle.compact_db.specs.WitnessOf.{witness_of}
use Rattle.compact_db.specs.declared.verified.VerifiedWitness.{VerifiedWitness}
use Rattle.compact_db.proofs.DbLemmas.{size_of_list}
use Rattle.compact_db.proofs.ServingLemmas.{kept_false, kept_true}
use Rattle.command_text.specs.declared.command.Answer.TheVariants as answer
use Rattle.list_machine.specs.Config.{Config}
use Rattle.list_machine.specs.Operation.{Operation, meaning, sha}
use Rattle.list_machine.specs.Step.{prove_commit, proof_here, unless}
use Rattle.twin_batches.specs.Kind.{kept_of}
use Rattle.twin_batches.specs.StateOf.{StandsGood}
use Rattle.twin_batches.specs.declared.numbers.Numbers.{Numbers}
use Rattle.twin_databases.specs.CompactKind.{CompactView, SealedView, UnsealedView, IsHeldAt, at_rest, held_over, compact_kind}
use Rattle.twin_databases.proofs.CompactRefusing.{Admits, Reads, read_again, list_rebuilds}
use Rattle.twin_side.specs.Proving.{outside_refusal, has_witness}
use Rattle.twin_side.proofs.FullReads.{operations_fit}

-- ---- the last of the first operations

-- where a list has a size there is an operation that ends it
ended : (ops : List Operation) (k : ℕ) → k < length ops → (op : Operation) × (slice_get ops k ≡ Some op)
ended [] k lt = absurd (omega (arith, lt))
ended (op ∷ ops) zero lt = (op, refl)
ended (op ∷ ops) (suc k) lt = ended ops k (omega (arith, lt))

-- and it stands alone from there on
alone : (ops : List Operation) (k : ℕ) (op : Operation) → slice_get ops k ≡ Some op
    → drop k (take (suc k) ops) ≡ op ∷ []
alone [] k op at = absurd cc
alone (x ∷ ops) zero op at = let e : x ≡ op = cc in front ops e
  where
    front : (ops : List Operation) → x ≡ op → x ∷ take 0 ops ≡ op ∷ []
    front [] e = ap (λ (o : Operation). o ∷ []) e
    front (y ∷ ops) e = ap (λ (o : Operation). o ∷ []) e
alone (x ∷ ops) (suc k) op at = alone ops k op at

-- ---- refusals

-- as far as the size tells
outside_none : (size n : ℕ) → outside_refusal size n ≡ None → (0 < n) × (n ≤ size)
outside_none size n none = (some, within)
  where
    tests : (a b : Bool) → refuse_if (a || b) (refusal.RangeOutOfBounds n) ≡ None → (a ≡ false) × (b ≡ false)
    tests true b e = absurd cc
    tests false true e = absurd cc
    tests false false e = (refl, refl)

    both : ((n == 0) ≡ false) × (nat_lt size n ≡ false)
    both = tests (n == 0) (nat_lt size n) none

    some : 0 < n
    some = let e = both.0 in grind (arith, nat_tests, e)

    within : n ≤ size
    within = let e = both.1 in grind (arith, nat_tests, e)

module _ (s : State Operation) (n : ℕ) where
  abbrev HasWitness : Bool
  HasWitness = has_witness s n

  pub refused_outside : (why : Refusal) → outside_refusal (length s.ops) n ≡ Some why
      → answer.Refused why ≡ (prove_commit s n).0
  refused_outside why is =
      sym (ap (λ o. (unless s (or_else o (refuse_if (not HasWitness) (refusal.ItemPruned (n - 1))))
      (answer.Proof (proof_here s n (n - 1) n))).0) is)

  module _ (known : outside_refusal (length s.ops) n ≡ None) where
    behind : (prove_commit s n).0 ≡ (unless s (refuse_if (not HasWitness) (refusal.ItemPruned (n - 1)))
        (answer.Proof (proof_here s n (n - 1) n))).0
    behind =
        ap (λ o. (unless s (or_else o (refuse_if (not HasWitness) (refusal.ItemPruned (n - 1))))
        (answer.Proof (proof_here s n (n - 1) n))).0) known

    pub refused_unkept : HasWitness ≡ false → answer.Refused (refusal.ItemPruned (n - 1)) ≡ (prove_commit s n).0
    refused_unkept none =
        sym (behind ∙ ap (λ b. (unless s (refuse_if (not b) (refusal.ItemPruned (n - 1)))
        (answer.Proof (proof_here s n (n - 1) n))).0) none)

    pub answered_kept : HasWitness ≡ true → answer.Proof (proof_here s n (n - 1) n) ≡ (prove_commit s n).0
    answered_kept kept =
        sym (behind ∙ ap (λ b. (unless s (refuse_if (not b) (refusal.ItemPruned (n - 1)))
        (answer.Proof (proof_here s n (n - 1) n))).0) kept)

-- ---- what is served

-- what holds of each holds of one that is found
any_all : (P : ℕ → Type 0) (ns : List ℕ) (n : ℕ) → has_size ns n ≡ true → AllByRecursion P ns → P n
any_all P [] n found all = absurd cc
any_all P (m ∷ ns) n found all = by (λ rest. any_all P ns n rest all.1) (m == n) refl
  where
    by : (has_size ns n ≡ true → P n) → (b : Bool) → (m == n) ≡ b → P n
    by later true e = let same : m ≡ n = grind (arith, nat_tests, e) in subst P same all.0
    by later false e = later (ap (λ b. b || has_size ns n) (sym e) ∙ found)

-- of a state that there may be it is whether it is kept
served_kept : (tip n : ℕ) (kept : Bool) → 0 < n → n ≤ tip
    → serve_answer {F = Mmr} tip n (n - 1) kept ≡ kept_answer n kept
served_kept tip n kept some within = grind (arith, nat_tests)

kept_ok : (n : ℕ) (kept : Bool) → kept_answer {F = Mmr} n kept ≡ Ok tt → kept ≡ true
kept_ok n true is = refl
kept_ok n false is = absurd cc

kept_err : (n : ℕ) (kept : Bool) (e : Error Mmr) → kept_answer n kept ≡ Err e → kept ≡ false
kept_err n true e is = absurd cc
kept_err n false e is = refl

-- where what is read is the same
pub good_over : (c : Config) (was is : volume.State) → SameContents was is → (db : CompactView)
    (numbers : Numbers SealedView UnsealedView) (s : State Operation)
    → StandsGood compact_kind c (present was) db numbers s → StandsGood compact_kind c (present is) db numbers s
good_over c was is same db numbers s good = record {
  good = good.good;
  under = good.under;
  few = good.few;
  is = record {
    log = compact_kind.framed (kept_of s) (present was) (present is) db (same.logs (seen_log db.log).name, tt) tt
        good.is.log;
    batches = good.is.batches;
    marks = good.is.marks;
  };
}

module _ (c : Config) (image : Image) (db : CompactView) (numbers : Numbers SealedView UnsealedView)
    (s : State Operation) (good : StandsGood compact_kind c image db numbers s) where
  pub held : IsHeldAt s.ops s.sizes db (at_rest image)
  held = good.is.log.held

  -- on a volume with these contents
  pub held_now : (old : volume.State) → image ≡ present old → IsHeldAt s.ops s.sizes db old
  held_now old same =
      held_over s.ops s.sizes db (at_rest image) old
      (ap (λ (i : Image). i.log (seen_log db.log).name) (sym same)) held

  pub size_here : db.tip.witness.size ≡ length s.ops
  size_here = size_of_list mmr sha meaning s.ops db.tip db.tree db.commit held.list

  start_here : (seen_log db.log).start ≡ s.wstart
  start_here = held.bounds.start_is ∙ good.is.log.begins

  pub admitted : (k : ℕ) (op : Operation) → slice_get s.ops k ≡ Some op → Admits db.codec op
  admitted k op at =
      let within = good.good.good.ops.few in
      subst (λ (cfg : LengthCfg). Admits cfg op) (sym good.under.codec)
      (operations_fit c.value_limit good.few 0 0 s.ops (omega (arith, within)) good.good.good.ops.values
      good.good.good.ops.floors k op at)

  -- the last size's witness is kept
  last_kept : has_witness s (length s.ops) ≡ true
  last_kept =
      let some = held.some in let begins = good.is.log.begins in
      kept_true s.sizes s.wstart (length s.sizes - 1) (length s.ops) (omega (arith, some, begins), held.last)

  -- where a search says that it is
  pub found_here : (n k : ℕ) (place : Option ℕ) → k ≡ n → IsKeptAt s.sizes (seen_log db.log).start k place
      → is_some place ≡ has_witness s n
  found_here n k None same none =
      sym (ap (λ i. has_size (drop i s.sizes) n) (sym start_here)
      ∙ kept_false s.sizes (seen_log db.log).start n
      (subst (λ i. IsKeptAt s.sizes (seen_log db.log).start i None) same none))
  found_here n k (Some p) same at =
      sym (ap (λ i. has_size (drop i s.sizes) n) (sym start_here)
      ∙ kept_true s.sizes (seen_log db.log).start p n
      (subst (λ i. IsKeptAt s.sizes (seen_log db.log).start i (Some p)) same at))

  -- the witness of the whole is
  pub last_here : (n : ℕ) → n ≡ db.tip.witness.size → true ≡ has_witness s n
  last_here n same = sym (ap (has_witness s) (same ∙ size_here) ∙ last_kept)

  kept_is : (n : ℕ) → is_kept db.tip.witness.size (drop (seen_log db.log).start s.sizes) n ≡ has_witness s n
  kept_is n =
      ap (λ k. is_kept db.tip.witness.size (drop k s.sizes) n) start_here
      ∙ ap (λ k. is_kept k (drop s.wstart s.sizes) n) size_here ∙ by (n == length s.ops) refl
    where
      by : (b : Bool) → (n == length s.ops) ≡ b → (b || has_witness s n) ≡ has_witness s n
      by false e = refl
      by true e =
          let same : n ≡ length s.ops = grind (arith, nat_tests, e) in
          sym (ap (has_witness s) same ∙ last_kept)

  module _ (n : ℕ) (known : outside_refusal (length s.ops) n ≡ None) (k l : ℕ) (size_is : k ≡ n) (start_is : l ≡ n - 1)
    where
      some : 0 < n
      some = (outside_none (length s.ops) n known).0

      within : n ≤ length s.ops
      within = (outside_none (length s.ops) n known).1

      -- What the database says of its answer.
      abbrev Kept : Bool
      Kept = is_kept db.tip.witness.size (drop (seen_log db.log).start s.sizes) k

      abbrev pub IsServed : Result (Response Mmr Operation Sha256Digest) (Error Mmr) → Type 0
      IsServed r = AnswersAs (serve_answer db.tip.witness.size k l Kept)
          (rebuild_answer {F = Mmr} mmr meaning (λ bytes. whole (Reads db.codec bytes))
          (witness_of mmr sha meaning s.ops k)) r

      abbrev pub IsListed : Response Mmr Operation Sha256Digest → Type 0
      IsListed r = (commit : Operation) → slice_get s.ops (k - 1) ≡ Some commit → Admits db.codec commit
          → r ≡ (let v : VerifiedWitness Mmr Sha256Digest = verified_of mmr sha meaning (take k s.ops) in
          Operations v.proof (commit ∷ []))

      answer_is : serve_answer {F = Mmr} db.tip.witness.size k l Kept ≡ kept_answer n (has_witness s n)
      answer_is =
          ap (λ i. serve_answer {F = Mmr} db.tip.witness.size i l
          (is_kept db.tip.witness.size (drop (seen_log db.log).start s.sizes) i)) size_is
          ∙ ap (λ i. serve_answer {F = Mmr} db.tip.witness.size n i
          (is_kept db.tip.witness.size (drop (seen_log db.log).start s.sizes) n)) start_is
          ∙ ap (λ b. serve_answer {F = Mmr} db.tip.witness.size n (n - 1) b) (kept_is n)
          ∙ served_kept db.tip.witness.size n (has_witness s n) some (let size = size_here in omega (arith, within, size))

      -- the commit, and its proof
      commit : (op : Operation) × (slice_get s.ops (n - 1) ≡ Some op)
      commit = ended s.ops (n - 1) (omega (arith, some, within))

      abbrev Verified : VerifiedWitness Mmr Sha256Digest
      Verified = verified_of mmr sha meaning (take n s.ops)

      count_is : length (leaves_from mmr sha meaning 0 (take n s.ops)) ≡ n
      count_is =
          length-leaves_from mmr sha meaning 0 (take n s.ops)
          ∙ (let le = within in omega (arith, le, length-take n s.ops))

      proof_is : Verified.proof ≡ (proof_answer mmr sha meaning {F = Mmr} s.ops n (n - 1) n).0
      proof_is =
          ap (λ k. proof_of mmr sha (leaves_from mmr sha meaning 0 (take n s.ops))
          (inactive mmr k (floor_of meaning (take n s.ops))) (meets (k - 1) k)) count_is

      shown_is : meaning.encoding commit.0 ∷ [] ≡ map meaning.encoding (drop (n - 1) (take n s.ops))
      shown_is =
          let next : suc (n - 1) ≡ n = omega (arith, some) in
          let last : drop (n - 1) (take n s.ops) ≡ commit.0 ∷ [] =
          subst (λ k. drop (n - 1) (take k s.ops) ≡ commit.0 ∷ []) next (alone s.ops (n - 1) commit.0 commit.1) in
          sym (ap (map meaning.encoding) last)

      -- What is served shows a commit, and is the list machine's answer.
      pub record IsShown (r : Response Mmr Operation Sha256Digest) : Type 0 where
        pub proof : Proof Mmr Sha256Digest
        pub op : Operation
        pub served : r ≡ Operations proof (op ∷ [])
        pub answers : answer.Proof (record { proof = proof; start = n - 1; operations = meaning.encoding op ∷ [] })
            ≡ (prove_commit s n).0

      pub served_shown : (r : Response Mmr Operation Sha256Digest)
          → IsServed (let served : Result (Response Mmr Operation Sha256Digest) (Error Mmr) = Ok r in served)
          → IsListed r → IsShown r
      served_shown r kept listed = record {
        proof = Verified.proof;
        op = commit.0;
        served =
            listed commit.0 (ap (λ i. slice_get s.ops (i - 1)) size_is ∙ commit.1)
            (admitted (n - 1) commit.0 commit.1)
            ∙ ap (λ i. (let v : VerifiedWitness Mmr Sha256Digest = verified_of mmr sha meaning (take i s.ops) in
            Operations v.proof (commit.0 ∷ []))) size_is;
        answers =
            ap (λ p. answer.Proof (record { proof = p; start = n - 1; operations = meaning.encoding commit.0 ∷ [] }))
            proof_is
            ∙ ap (λ es. answer.Proof (record {
              proof = (proof_answer mmr sha meaning {F = Mmr} s.ops n (n - 1) n).0;
              start = n - 1;
              operations = es;
            })) shown_is
            ∙ answered_kept s n known (kept_ok n (has_witness s n) (sym answer_is ∙ kept));
      }

      -- What isn't, of a witness that is kept, comes from outside.
      pub fails_outside : (e : Error Mmr) → has_witness s n ≡ true
          → IsServed (let served : Result (Response Mmr Operation Sha256Digest) (Error Mmr) = Err e in served)
          → IsOutside e
      fails_outside e has told = by told
        where
          sized : IsSizeOf meaning s.ops n
          sized = any_all (IsSizeOf meaning s.ops) (drop s.wstart s.sizes) n has
              (subst (λ k. AllByRecursion (IsSizeOf meaning s.ops) (drop k s.sizes)) good.is.log.begins held.within)

          by : IsServed (let served : Result (Response Mmr Operation Sha256Digest) (Error Mmr) = Err e in served)
              → IsOutside e
          by (inl refused) =
              let none = kept_err n (has_witness s n) e (sym answer_is ∙ refused) in
              let both : true ≡ false = sym has ∙ none in absurd cc
          by (inr (inl outside)) = outside
          by (inr (inr (kept, bad))) =
              absurd (list_rebuilds (λ bytes. whole (Reads db.codec bytes)) (Admits db.codec) (read_again db.codec) s.ops
              n good.good.good.ops.few sized good.good.good.ops.floors (admitted (n - 1)) e
              (ap (λ i. rebuild_answer {F = Mmr} mmr meaning (λ bytes. whole (Reads db.codec bytes))
              (witness_of mmr sha meaning s.ops i)) (sym size_is) ∙ bad))
