-- Why nodes of a tree can't be read.
use Rattle.std.specs.Prelude.{◌≡◌, ◌⊎◌, ℕ, ◌^◌, ◌<◌, ◌≤◌, List, Option, Some, Result, Ok, Err, nat_le, if◌then◌else◌, slice_get}
use Rattle.volume_base.specs.Log.{end_of}
use Rattle.volume_base.specs.declared.error.JournalError.TheVariants as journal
use Rattle.journal_base.specs.Items.{Items, IsCorrupt}
use Rattle.tree_store.specs.Stores.{IsOutside, IsFirstAbsent}
use Rattle.tree_store.specs.declared.error.Error.{Error}
use Rattle.tree_store.specs.declared.error.Error.TheVariants.{LocationOverflow, RangeOutOfBounds, ElementPruned, Journal}

-- by the outside; or by the log, which begins past the position, or ends at or before it, or has bytes there that are
-- no digest
abbrev pub IsUnreadAt : {F D : Type 0} → Type 0 → Items D → ℕ → Error F → Type 0
IsUnreadAt tells items p e = IsOutside e
    ⊎ (((e ≡ Journal (journal.ItemPruned p)) × (tells → p < items.log.start))
    ⊎ (((e ≡ Journal (journal.ItemOutOfRange p)) × (tells → end_of items.log ≤ p))
    ⊎ ((e ≡ Journal (journal.Corruption p)) × (tells → IsCorrupt items p))))

-- one of several positions: it has no node, or can't be read
abbrev pub IsUnreadAmong : {F D : Type 0} → Type 0 → Items D → List ℕ → Error F → Type 0
IsUnreadAmong tells items ps e = IsOutside e
    ⊎ ((i p : ℕ) × (slice_get ps i ≡ Some p) × ((e ≡ ElementPruned p) ⊎ IsUnreadAt tells items p e))

-- by the outside, or at or past the end of the nodes
abbrev pub IsPast : {F : Type 0} → ℕ → Error F → Type 0
IsPast p e = IsOutside e ⊎ (e ≡ Journal (journal.ItemOutOfRange p))

-- by the outside; or the first of several positions that has no node is named: as pruned, or as one at or past the end
-- of the nodes
abbrev pub IsFirstUnread : {F D : Type 0} → (ℕ → Option D) → ℕ → List ℕ → Error F → Type 0
IsFirstUnread told end ps e = IsOutside e
    ⊎ ((p : ℕ) × IsFirstAbsent told ps p
    × (((e ≡ ElementPruned p) × (p < end)) ⊎ ((e ≡ Journal (journal.ItemOutOfRange p)) × (end ≤ p))))

-- whether a tree of n leaves has the peaks of a number of leaves
abbrev pub peaks_answer : {F : Type 0} → ℕ → ℕ → Result (Unit {0}) (Error F)
peaks_answer n leaves =
    if nat_le leaves (2 ^ 62) then (if nat_le leaves n then Ok tt else Err (RangeOutOfBounds leaves))
    else Err (LocationOverflow leaves)
