-- At how many leaves a tree is opened, from a stored boundary and the bounds of a log.
use Rattle.std.specs.Prelude.{◌≡◌, ◌⊎◌, ℕ, ◌<◌, ◌≤◌, ◌^◌, max, List, length, Option, Some, None, Result, Ok, Err, ◌==◌, nat_le, if◌then◌else◌}
use Rattle.std.specs.FinMap as finmap
use Rattle.std.specs.Int.{w64, from_be_bytes}
use Rattle.volume_base.specs.Volume.{Map}
use Rattle.volume_base.specs.declared.error.JournalError.TheVariants as journal
use Rattle.tree_shape.specs.Shape.{Shape}
use Rattle.tree_store.specs.Stored.{size, boundary_key}
use Rattle.tree_store.specs.declared.error.Error.{Error}
use Rattle.tree_store.specs.declared.error.Error.TheVariants.{LocationOverflow, DataCorrupted, ElementPruned, MissingNode, Journal}
use Rattle.tree_store.specs.declared.error.TreeData.TheVariants.{Boundary}

-- of at most `cap` leaves, n are the most whose nodes end at or below `end`
pub record IsMost (s : Shape) (cap end n : ℕ) : Type 0 where
  pub few : n ≤ cap
  pub fits : size s n ≤ end
  pub most : (m : ℕ) → m ≤ cap → size s m ≤ end → m ≤ n

-- n leaves are the least whose nodes end at or past `start`
pub record IsLeast (s : Shape) (start n : ℕ) : Type 0 where
  pub past : start ≤ size s n
  pub least : (m : ℕ) → start ≤ size s m → n ≤ m

-- the boundary that eight bytes spell, which is a number of leaves
abbrev pub boundary_in : {F : Type 0} → List ℕ → Result ℕ (Error F)
boundary_in bytes =
    if length bytes == 8
    then (if nat_le (from_be_bytes w64 bytes) (2 ^ 62) then Ok (from_be_bytes w64 bytes)
    else Err (LocationOverflow (from_be_bytes w64 bytes)))
    else Err (DataCorrupted Boundary)

abbrev pub some_ok : {F : Type 0} → Result ℕ (Error F) → Result (Option ℕ) (Error F)
some_ok (Ok boundary) = Ok (Some boundary)
some_ok (Err e) = Err e

-- the boundary that a map stores, where there is one
abbrev pub stored_as : {F : Type 0} → Option (List ℕ) → Result (Option ℕ) (Error F)
stored_as None = Ok None
stored_as (Some bytes) = some_ok (boundary_in bytes)

abbrev pub stored_in : {F : Type 0} → Map → Result (Option ℕ) (Error F)
stored_in m = stored_as (finmap.get m boundary_key)

-- A tree with this stored boundary, and a log with these bounds, is opened under a cap at so many leaves, and pruned at
-- so many.
pub record Selects (s : Shape) (boundary start end cap complete pruned : ℕ) : Type 0 where
  pub allowed : boundary ≤ cap
  pub reached : start ≤ size s cap
  pub most : IsMost s cap end complete
  pub least : ℕ
  pub is_least : IsLeast s start least
  pub pruned_is : pruned ≡ max boundary least
  pub within : pruned ≤ complete

-- the log ends before what the tree would be pruned at
pub record EndsBefore (s : Shape) (boundary start end cap pruned : ℕ) : Type 0 where
  pub complete : ℕ
  pub most : IsMost s cap end complete
  pub least : ℕ
  pub is_least : IsLeast s start least
  pub pruned_is : pruned ≡ max boundary least
  pub past : complete < pruned

-- Why it isn't opened: the cap is below the boundary; or its position is below the log's start; or the log ends too
-- early.
abbrev pub NotSelected : {F : Type 0} → Shape → ℕ → ℕ → ℕ → ℕ → Error F → Type 0
NotSelected s boundary start end cap e =
    ((e ≡ ElementPruned (size s cap)) × (cap < boundary))
    ⊎ (((e ≡ Journal (journal.ItemPruned (size s cap))) × (boundary ≤ cap) × (size s cap < start))
    ⊎ ((boundary ≤ cap) × (start ≤ size s cap)
    × ((pruned : ℕ) × EndsBefore s boundary start end cap pruned × (e ≡ MissingNode (size s pruned)))))
