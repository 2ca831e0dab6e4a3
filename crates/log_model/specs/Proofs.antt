-- The proofs of a list's operations, and why they are refused.
use Rattle.std.specs.Prelude.{ℕ, ◌+◌, ◌-◌, ◌==◌, ◌||◌, Bool, true, min, not, nat_lt, nat_le, List, [], ◌∷◌, length, take, drop, Option, is_none}
use Rattle.std.specs.List.{list_any}
use Rattle.tree_shape.specs.Hashing.{Hashing}
use Rattle.tree_shape.specs.Shape.{Shape, inactive}
use Rattle.tree_proof.specs.Cover.{meets}
use Rattle.tree_proof.specs.SlowProof.{proof_of}
use Rattle.tree_proof.specs.declared.proof.Proof.{Proof}
use Rattle.log_model.specs.Meaning.{Meaning}
use Rattle.log_model.specs.Operations.{floor_of, leaves_from}
use Rattle.log_model.specs.Reads.{or_else, refuse_if}
use Rattle.log_model.specs.declared.refusal.Refusal.{Refusal}
use Rattle.log_model.specs.declared.refusal.Refusal.TheVariants.{ItemPruned, HistoricalFloorPruned, RangeOutOfBounds}

-- A size that was never reached.
abbrev pub size_refusal : {Op : Type 0} → List Op → ℕ → Option Refusal
size_refusal ops n = refuse_if ((n == 0) || nat_lt (length ops) n) (RangeOutOfBounds n)

module _ {Op V : Type 0} (m : Meaning Op V) where
  -- Whether a list doesn't end with a commit.
  abbrev pub lacks_commit : List Op → Bool
  lacks_commit [] = true
  lacks_commit (op ∷ []) = is_none (m.floor op)
  lacks_commit (op ∷ next ∷ ops) = lacks_commit (next ∷ ops)

  -- Why operations from a on aren't proved in the first n of a list that is kept from a start on: no such size; its last operation isn't kept,
  -- or is no commit; they begin at or past it; the first of them isn't kept.
  abbrev pub proof_refusal : List Op → ℕ → ℕ → ℕ → Option Refusal
  proof_refusal ops start n a =
      or_else (size_refusal ops n)
      (or_else (refuse_if (nat_lt (n - 1) start) (ItemPruned (n - 1)))
      (or_else (refuse_if (lacks_commit (take n ops)) (HistoricalFloorPruned n))
      (or_else (refuse_if (nat_le n a) (RangeOutOfBounds a))
      (refuse_if (nat_lt a start) (ItemPruned a)))))

-- Why the commit that ends the first n operations isn't proved, where witnesses of these sizes are kept: no such size; no witness of it.
abbrev pub commit_proof_refusal : {Op : Type 0} → List Op → List ℕ → ℕ → Option Refusal
commit_proof_refusal ops kept n =
    or_else (size_refusal ops n) (refuse_if (not (list_any (λ k. k == n) kept)) (ItemPruned (n - 1)))

-- The end of a proof in the first n that begins at a and has at most so many operations.
abbrev pub proof_end : ℕ → ℕ → ℕ → ℕ
proof_end n a count = min n (a + count)

module _ {D Op V : Type 0} (s : Shape) (h : Hashing D) (m : Meaning Op V) where
  -- The proof of the operations from a to e in the first n of a list, and these operations.
  abbrev pub proof_answer : {F : Type 0} → List Op → ℕ → ℕ → ℕ → Proof F D × List Op
  proof_answer ops n a e = (
    proof_of s h (leaves_from s h m 0 (take n ops)) (inactive s n (floor_of m (take n ops))) (meets a e),
    drop a (take e ops),
  )
