-- Why a batch isn't sealed or applied, and why nothing is pruned.
use Rattle.std.specs.Prelude.{ℕ, ◌+◌, nat_lt, Bool, Option, Some, None, if◌then◌else◌}
use Rattle.log_model.specs.Meaning.{Meaning}
use Rattle.log_model.specs.Operations.{floor_of}
use Rattle.log_model.specs.StateBatches.{UnsealedBatch, SealedBatch, size_of}
use Rattle.log_model.specs.Machine.{State, SameTest, max_leaves}
use Rattle.log_model.specs.Reach.{floor_below, may_seal, may_apply}
use Rattle.log_model.specs.declared.refusal.Refusal.{Refusal}
use Rattle.log_model.specs.declared.refusal.Refusal.TheVariants.{StaleBatch, LocationOverflow, FloorRegressed, FloorBeyondSize, PruneBeyondMinRequired}

-- Why a floor is refused, if it is: it falls below the one that it builds on, or is past the commit.
abbrev pub floor_refusal : ℕ → ℕ → ℕ → Option Refusal
floor_refusal below floor location =
    if nat_lt floor below then Some (FloorRegressed floor below)
    else (if nat_lt location floor then Some (FloorBeyondSize floor location)
    else None)

-- Why a batch isn't sealed that has so many operations before its commit and builds on this floor: the log stands where it can't be sealed,
-- or it would be too long, or its own floor is refused.
abbrev pub commit_refusal : Bool → ℕ → ℕ → ℕ → Option Refusal
commit_refusal stands size below floor =
    if stands then
    (if nat_lt max_leaves (size + 1) then Some (LocationOverflow (size + 1))
    else floor_refusal below floor size)
    else Some StaleBatch

-- Why a seal of this floor is refused.
abbrev pub seal_refusal : {Op V : Type 0} → SameTest Op → Meaning Op V → State Op → UnsealedBatch Op → ℕ
    → Option Refusal
seal_refusal same m s u floor = commit_refusal (may_seal same s u) (size_of u) (floor_below m s u) floor

-- Why an apply is refused: the batch can't be applied to the present list.
abbrev pub apply_refusal : {Op : Type 0} → SameTest Op → State Op → SealedBatch Op → Option Refusal
apply_refusal same s c = if may_apply same s c then None else Some StaleBatch

-- Why a prune is refused: the location lies past the floor.
abbrev pub prune_refusal : {Op V : Type 0} → Meaning Op V → State Op → ℕ → Option Refusal
prune_refusal m s l = if nat_lt (floor_of m s.ops) l then Some (PruneBeyondMinRequired l (floor_of m s.ops)) else None
