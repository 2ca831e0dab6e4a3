-- What a batch becomes that is sealed.
use Rattle.std.proofs.Common.{◌≡◌, ℕ, ◌+◌, ◌^◌, ◌≤◌, Bool, true, false, cond, List, [], ◌∷◌, ◌++◌, length, Option, Some, None, refl, sym, ◌∙◌, ap, subst, arith}
use Rattle.std.specs.Prelude.{nat_lt, IsSome}
use Rattle.std.proofs.lemmas.Bool.Decides.{nat_tests}
use Rattle.std.proofs.lemmas.List.{length-append}
use Rattle.std.proofs.lemmas.Option.{none-some}
use Rattle.tree_shape.specs.Hashing.{Hashing}
use Rattle.tree_shape.specs.Shape.{Shape}
use Rattle.tree_core.specs.Batches.{Sealed, Unsealed, IsSealedOf, IsUnsealedOf, with_digests, leaf_count}
use Rattle.log_model.specs.Meaning.{Meaning}
use Rattle.log_model.specs.Operations.{floor_of, leaves_from}
use Rattle.log_model.specs.Good.{EndsWithCommit}
use Rattle.log_model.specs.Refusals.{commit_refusal}
use Rattle.log_model.specs.Machine.{max_leaves}
use Rattle.log_model.specs.declared.refusal.Refusal.{Refusal}
use Rattle.chain_core.specs.declared.bounds.Bounds.{Bounds}
use Rattle.compact_db.specs.Batches.{AreLastBytes, IsSoundMerkleized}
use Rattle.log_model.proofs.OperationLemmas.{leaves_from-append, length-leaves_from, floor_of_append}

-- ---- the tree of a batch

module _ {D Op V : Type 0} (s : Shape) (h : Hashing D) (m : Meaning Op V) (tree grown : Unsealed D) (digests : List D) (first : ℕ)
    (ops : List Op) (none : tree.digests ≡ []) (grows : grown ≡ with_digests tree digests) (at : first ≡ leaf_count tree)
    (are : digests ≡ leaves_from s h m first ops) where
  first_is : first ≡ tree.base
  first_is = at ∙ (let n : length tree.digests ≡ 0 = ap length none in omega (arith, n))

  pub leaves_are : (n : ℕ) → n ≡ leaf_count grown → n ≡ tree.base + length ops
  leaves_are n is =
      let more : leaf_count grown ≡ tree.base + length (tree.digests ++ digests) = ap leaf_count grows in
      let old : length tree.digests ≡ 0 = ap length none in
      let own : length digests ≡ length ops = ap length are ∙ length-leaves_from s h m first ops in
      omega (arith, is, more, old, own, length-append tree.digests digests)

  digests_are : grown.digests ≡ leaves_from s h m tree.base ops
  digests_are =
      ap (λ (b : Unsealed D). b.digests) grows ∙ ap (λ ds. ds ++ digests) none ∙ are ∙ ap (λ n. leaves_from s h m n ops) first_is

  pub batch_of : (list : List Op) (b : Sealed D) → tree.base ≡ length list → IsUnsealedOf s h (leaves_from s h m 0 list) tree
      → ((all : List D) → IsUnsealedOf s h all grown → IsSealedOf s h (all ++ grown.digests) b)
      → IsSealedOf s h (leaves_from s h m 0 (list ++ ops)) b
  batch_of list b base of made =
      let goes : IsUnsealedOf s h (leaves_from s h m 0 list) (with_digests tree digests) =
      record { batch = of.batch; base = of.base } in
      let on : IsUnsealedOf s h (leaves_from s h m 0 list) grown =
      subst (λ (u : Unsealed D). IsUnsealedOf s h (leaves_from s h m 0 list) u) (sym grows) goes in
      let end : tree.base ≡ 0 + length list = omega (arith, base) in
      let whole : leaves_from s h m 0 list ++ grown.digests ≡ leaves_from s h m 0 (list ++ ops) =
      ap (λ ds. leaves_from s h m 0 list ++ ds) (digests_are ∙ ap (λ n. leaves_from s h m n ops) end)
      ∙ sym (leaves_from-append s h m 0 list ops) in
      subst (λ (all : List D). IsSealedOf s h all b) whole (made (leaves_from s h m 0 list) on)

  -- a tree of a list and more operations has as many leaves
  pub whole_count : (list : List Op) (n : ℕ) → n ≡ leaf_count grown → tree.base ≡ length list → n ≡ length (list ++ ops)
  whole_count list n is base = leaves_are n is ∙ omega (arith, base, length-append list ops)

-- ---- why there is room

room-if : (a b : Bool) (x z : Refusal) (y : Option Refusal) → cond a (cond b (Some x) y) (Some z) ≡ None → b ≡ false
room-if true true x z y e = absurd (none-some x (sym e))
room-if true false x z y e = refl
room-if false b x z y e = absurd (none-some z (sym e))

not_above : (m n : ℕ) → nat_lt m n ≡ false → n ≤ m
not_above m n e = grind (arith, nat_tests)

-- a seal that nothing refuses leaves room for its commit
pub room : (stands : Bool) (size below floor : ℕ) → commit_refusal stands size below floor ≡ None → size + 1 ≤ 2 ^ 62
room stands size below floor e = not_above max_leaves (size + 1) (room-if stands (nat_lt max_leaves (size + 1)) _ _ _ e)

-- ---- lists that one more commit ends

module _ {Op V : Type 0} (m : Meaning Op V) where
  pub ends_last : (xs : List Op) (op : Op) → IsSome (m.floor op) → EndsWithCommit m (xs ++ (op ∷ []))
  ends_last [] op is = is
  ends_last (x ∷ []) op is = is
  ends_last (x ∷ y ∷ xs) op is = ends_last (y ∷ xs) op is

  pub floor_last : (xs : List Op) (op : Op) (floor : ℕ) → m.floor op ≡ Some floor → floor_of m (xs ++ (op ∷ [])) ≡ floor
  floor_last xs op floor is = floor_of_append m xs (op ∷ []) (omega arith) ∙ rw is refl

-- ---- the parts of a batch

-- behind what was collected a commit: the batch is sound, with the bytes of its last operation
pub sound_ended : {F D Op : Type 0} (spelling : Op → List ℕ) (tree : Sealed D) (pending : List Op) (commit : Op) (ops : List Op)
    (bytes : List ℕ) (bounds : Bounds F D) → ops ≡ pending ++ (commit ∷ []) → tree.leaves ≡ bounds.base.size + length ops
    → bounds.tip.size ≡ bounds.base.size + length pending + 1 → AreLastBytes spelling ops bytes
    → IsSoundMerkleized spelling tree ops bytes bounds
sound_ended spelling tree pending commit ops bytes bounds ended leaves tip last =
    let all = ap length ended in
    let count = length-append pending (commit ∷ []) in
    record {
      tip = omega (arith, leaves, tip, all, count);
      own = omega (arith, tip, all, count);
      snapshot_db = λ none. absurd (omega (arith, none, all, count));
      snapshot_ancestors = λ none. absurd (omega (arith, none, all, count));
      bytes = last;
    }
