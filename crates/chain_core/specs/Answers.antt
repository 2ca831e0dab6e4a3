-- Which refusal of a read, a proof or a prune an error is, and which errors come from outside.
use Rattle.std.specs.Prelude.{◌≡◌, Option, Some, None, Result, IsOk, IsErrAnd}
use Rattle.volume_base.specs.declared.error.JournalError.TheVariants as journal_error
use Rattle.tree_store.specs.declared.error.Error.TheVariants as tree_error
use Rattle.log_model.specs.declared.refusal.Refusal.{Refusal}
use Rattle.log_model.specs.declared.refusal.Refusal.TheVariants as refusal
use Rattle.chain_core.specs.declared.error.Error.{Error}
use Rattle.chain_core.specs.declared.error.Error.TheVariants.{Journal, Merkle, LocationOutOfBounds, LocationOutOfOrder, BelowInactivityFloor, StaleRead, PruneBeyondMinRequired, HistoricalFloorPruned, Volume, Memory}

-- The refusal of a read, a proof or a prune that an error is, where it is one.
abbrev pub read_refusal_of : {F : Type 0} → Error F → Option Refusal
read_refusal_of StaleRead = Some refusal.StaleRead
read_refusal_of (LocationOutOfOrder location next) = Some (refusal.LocationOutOfOrder location next)
read_refusal_of (LocationOutOfBounds location size) = Some (refusal.LocationOutOfBounds location size)
read_refusal_of (BelowInactivityFloor location) = Some (refusal.BelowInactivityFloor location)
read_refusal_of (Journal (journal_error.ItemPruned location)) = Some (refusal.ItemPruned location)
read_refusal_of (Merkle (tree_error.RangeOutOfBounds location)) = Some (refusal.RangeOutOfBounds location)
read_refusal_of (HistoricalFloorPruned size) = Some (refusal.HistoricalFloorPruned size)
read_refusal_of (PruneBeyondMinRequired location floor) = Some (refusal.PruneBeyondMinRequired location floor)
read_refusal_of _ = None

-- It is refused for this reason.
abbrev pub IsRefusedFor : {F A : Type 0} → Refusal → Result A (Error F) → Type 0
IsRefusedFor why result = IsErrAnd result (λ e. read_refusal_of e ≡ Some why)

-- It is refused for this reason, where there is one, and else done.
abbrev pub IsRefusedWhere : {F A : Type 0} → Option Refusal → Result A (Error F) → Type 0
IsRefusedWhere None result = IsOk result
IsRefusedWhere (Some why) result = IsRefusedFor why result

-- a failure of the volume, or want of memory
abbrev pub IsOutside : {F : Type 0} → Error F → Type 0
IsOutside Volume = Unit {0}
IsOutside Memory = Unit {0}
IsOutside _ = ⊥
