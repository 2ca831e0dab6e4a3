-- What a request is answered with.
use Rattle.std.proofs.Common.{◌≡◌, ◌⊎◌, inl, inr, ℕ, ◌-◌, ◌<◌, true, false, List, length, take, Some, refl, sym, ◌∙◌, ap, subst, arith}
use Rattle.std.specs.Prelude.{◌==◌, ◌&&◌, nat_lt, nat_le, Bool, slice_get, Result, Ok, Err, IfErr, IsErrOf, IsOkUnless, if◌then◌else◌}
use Rattle.std.proofs.Math.Seq.{take-length}
use Rattle.std.proofs.lemmas.Bool.Decides.{nat_tests}
use Rattle.volume_base.specs.declared.error.JournalError.TheVariants.{ItemPruned}
use Rattle.tree_shape.specs.Hashing.{Hashing}
use Rattle.tree_shape.specs.Shape.{Shape}
use Rattle.tree_core.specs.Tree.{Tree}
use Rattle.tree_store.specs.declared.error.Error.TheVariants.{RangeOutOfBounds}
use Rattle.log_model.specs.Meaning.{Meaning}
use Rattle.target_codec.specs.declared.request.Request.{Request}
use Rattle.chain_core.specs.Answers.{IsOutside}
use Rattle.chain_core.specs.declared.error.Error.{Error}
use Rattle.chain_core.specs.declared.error.Error.TheVariants.{Journal, Merkle, Volume, Memory}
use Rattle.compact_db.specs.Serving.{has_size, is_kept, kept_answer, serve_answer, response_to, AnswersAs}
use Rattle.compact_db.specs.StateOf.{IsStateOf, verified_of}
use Rattle.compact_db.specs.declared.verified.VerifiedWitness.{VerifiedWitness}
use Rattle.compact_db.proofs.ApplyLemmas.{one_item}

-- three tests, each with a refusal of its own, and what answers after them
abbrev chosen : {E : Type 0} → Bool → Bool → Bool → Result (Unit {0}) E → E → E → E → Result (Unit {0}) E
chosen a b c second d e f = if a then (if b then (if c then second else Err f) else Err e) else Err d

by_ok : {E : Type 0} (a b c : Bool) (second : Result (Unit {0}) E) (d e f : E) → chosen a b c (Ok tt) d e f ≡ Ok tt → chosen a b c second d e f ≡ second
by_ok true true true second d e f is = refl
by_ok true true false second d e f is = absurd cc
by_ok true false c second d e f is = absurd cc
by_ok false b c second d e f is = absurd cc

by_err : {E : Type 0} (a b c : Bool) (second : Result (Unit {0}) E) (d e f x : E) → chosen a b c (Ok tt) d e f ≡ Err x → chosen a b c second d e f ≡ Err x
by_err true true true second d e f x is = absurd cc
by_err true true false second d e f x is = is
by_err true false c second d e f x is = is
by_err false b c second d e f x is = is

by_none : {E : Type 0} (a b c : Bool) (d e f x : E) → (d ≡ x → ⊥) → (e ≡ x → ⊥) → (f ≡ x → ⊥) → chosen a b c (Ok tt) d e f ≡ Err x → ⊥
by_none true true true d e f x p q r is = absurd cc
by_none true true false d e f x p q r is = r cc
by_none true false c d e f x p q r is = q cc
by_none false b c d e f x p q r is = p cc

module _ {F : Type 0} (tip size start : ℕ) where
  -- where the first three tests pass, it is whether the state is kept
  pub serve_is : (kept : Bool) → serve_answer {F = F} tip size start true ≡ Ok tt → serve_answer {F = F} tip size start kept ≡ kept_answer size kept
  serve_is kept is =
      by_ok (nat_lt 0 size && nat_le size tip) (nat_lt start size) (nat_le (size - 1) start) (kept_answer size kept)
      (Merkle (RangeOutOfBounds size)) (Merkle (RangeOutOfBounds start)) (Journal (ItemPruned start)) is

  -- else it is the same refusal
  pub serve_refused : (kept : Bool) (e : Error F) → serve_answer tip size start true ≡ Err e → serve_answer tip size start kept ≡ Err e
  serve_refused kept e is =
      by_err (nat_lt 0 size && nat_le size tip) (nat_lt start size) (nat_le (size - 1) start) (kept_answer size kept)
      (Merkle (RangeOutOfBounds size)) (Merkle (RangeOutOfBounds start)) (Journal (ItemPruned start)) e is

  pub serve_told : serve_answer {F = F} tip size start true ≡ Err Volume → ⊥
  serve_told is =
      by_none (nat_lt 0 size && nat_le size tip) (nat_lt start size) (nat_le (size - 1) start)
      (Merkle (RangeOutOfBounds size)) (Merkle (RangeOutOfBounds start)) (Journal (ItemPruned start)) Volume (λ e. cc) (λ e. cc) (λ e. cc) is

and_left : (a b : Bool) → (a && b) ≡ true → a ≡ true
and_left true b is = refl
and_left false b is = is

by_first : {E : Type 0} (a : Bool) (x : Result (Unit {0}) E) (d : E) → (if a then x else Err d) ≡ Ok tt → a ≡ true
by_first true x d is = refl
by_first false x d is = absurd cc

above_none : (n : ℕ) → nat_lt 0 n ≡ true → 0 < n
above_none n is = grind (arith, nat_tests)

pub serve_some : {F : Type 0} (tip size start : ℕ) → serve_answer {F = F} tip size start true ≡ Ok tt → 0 < size
serve_some tip size start is =
    above_none size (and_left (nat_lt 0 size) (nat_le size tip)
    (by_first (nat_lt 0 size && nat_le size tip) _ (Merkle (RangeOutOfBounds size)) is))

pub tip_kept : (tip size : ℕ) (sizes : List ℕ) → size ≡ tip → is_kept tip sizes size ≡ true
tip_kept tip size sizes at = let e : (size == tip) ≡ true = grind (arith, nat_tests) in rw e refl

pub other_kept : (tip size : ℕ) (sizes : List ℕ) → (size ≡ tip → ⊥) → is_kept tip sizes size ≡ has_size sizes size
other_kept tip size sizes other = let e : (size == tip) ≡ false = grind (arith, nat_tests) in rw e refl

-- what is served, where only memory may be wanting
pub memory_as : {F T U : Type 0} (answer : Result (Unit {0}) (Error F)) (other : Result U (Error F)) (r : Result T (Error F)) → answer ≡ Ok tt → IsOkUnless r Memory
    → AnswersAs answer other r
memory_as answer other (Ok x) is f = is
memory_as answer other (Err e) is f = inr (inl (subst (λ x. IsOutside x) (sym f) tt))

pub memory_alone : {F T : Type 0} (r : Result T (Error F)) → IsOkUnless r Memory → IsErrOf r Volume → ⊥
memory_alone (Ok x) f is = absurd cc
memory_alone {F} (Err e) f is =
    let v : Error F = Volume in
    let same : e ≡ v = cc in
    let both : v ≡ Memory = sym same ∙ f in absurd cc

pub memory_err : {F T : Type 0} (A B : Error F → Type 0) (r : Result T (Error F)) → IsOkUnless r Memory → IfErr r (λ e. A e ⊎ (IsOutside e ⊎ B e))
memory_err A B (Ok x) f = tt
memory_err A B (Err e) f = inr (inl (subst (λ x. IsOutside x) (sym f) tt))

-- ---- of a list

module _ {F D Op V : Type 0} (s : Shape) (h : Hashing D) (m : Meaning Op V) (request : Request F) (ops : List Op) (size : ℕ) (commit : Op)
    (at : slice_get ops (size - 1) ≡ Some commit) where
  same_response : (v : VerifiedWitness F D) (op : Op) → v ≡ verified_of s h m (take size ops) → op ≡ commit
      → response_to request v op ≡ response_to request (verified_of s h m (take size ops)) commit
  same_response v op p q = ap (λ (x : VerifiedWitness F D). response_to request x op) p ∙ ap (response_to request (verified_of s h m (take size ops))) q

  pub tip_response : (tip : VerifiedWitness F D) (tree : Tree D) (op : Op) → IsStateOf s h m ops tip tree op → size ≡ length ops
      → response_to request tip op ≡ response_to request (verified_of s h m (take size ops)) commit
  tip_response tip tree op is n =
      let whole : take size ops ≡ ops = rw n (take-length ops) in
      let place : slice_get ops (length ops - 1) ≡ Some commit = subst (λ k. slice_get ops (k - 1) ≡ Some commit) n at in
      same_response tip op (is.tip_is ∙ ap (verified_of s h m) (sym whole)) (one_item (slice_get ops (length ops - 1)) op commit is.commit_is place)
