-- Proofs of a list's operations: what is refused before any is read, and what is made.
use Rattle.std.specs.Prelude.{ℕ, ◌-◌, Bool, true, false, ◌==◌, ◌||◌, nat_lt, List, take, drop, Option, Some, None, if◌then◌else◌}
use Rattle.std.specs.List.{list_any}
use Rattle.tree_shape.specs.Mmr.{mmr}
use Rattle.tree_shape.specs.declared.mmr.Mmr.{Mmr}
use Rattle.tree_shape.specs.declared.sha256.Sha256Digest.{Sha256Digest}
use Rattle.tree_proof.specs.declared.proof.Proof.{Proof}
use Rattle.log_model.specs.Machine.{State}
use Rattle.log_model.specs.Proofs.{lacks_commit, proof_answer, proof_end}
use Rattle.log_model.specs.Reads.{or_else, refuse_if}
use Rattle.log_model.specs.declared.refusal.Refusal.{Refusal}
use Rattle.log_model.specs.declared.refusal.Refusal.TheVariants.{ItemPruned, RangeOutOfBounds}
use Rattle.chain_core.specs.declared.error.Error.{Error}
use Rattle.chain_core.specs.declared.error.Error.TheVariants.{HistoricalFloorPruned}
use Rattle.list_machine.specs.Operation.{Operation, meaning, sha}

-- Why nothing is proved in the first n of a list of so many operations, as far as its size tells: there is no such
-- size.
abbrev pub outside_refusal : (size n : ℕ) → Option Refusal
outside_refusal size n = refuse_if ((n == 0) || nat_lt size n) (RangeOutOfBounds n)

-- Why nothing is proved in the first n of a list of so many operations that is kept from a start on, as far as these
-- tell: no such size, or its last operation isn't kept.
abbrev pub known_refusal : (start size n : ℕ) → Option Refusal
known_refusal start size n =
    or_else (refuse_if ((n == 0) || nat_lt size n) (RangeOutOfBounds n))
    (refuse_if (nat_lt (n - 1) start) (ItemPruned (n - 1)))

-- Whether the witness of a size is kept.
abbrev pub has_witness : State Operation → ℕ → Bool
has_witness s n = list_any (λ k. k == n) (drop s.wstart s.sizes)

-- A proof, and the operations that it is of.
abbrev pub Shown : Type 0
Shown = Proof Mmr Sha256Digest × List Operation

-- The proof of at most so many operations from a on in the first n, where a commit ends these.
abbrev pub shown : List Operation → ℕ → ℕ → ℕ → Option Shown
shown ops n a count =
    if lacks_commit meaning (take n ops) then None
    else Some (proof_answer mmr sha meaning {F = Mmr} ops n a (proof_end n a count))

-- An error that says that no commit ends a size.
abbrev pub says_no_commit : {F : Type 0} → Error F → Bool
says_no_commit (HistoricalFloorPruned n) = true
says_no_commit _ = false
