-- Items that are read one after another.
use Rattle.std.specs.Prelude.{◌≡◌, ◌⊎◌, ℕ, ◌-◌, ◌<◌, ◌≤◌, List, Some, slice_get}
use Rattle.std.specs.List.{range_with_len}
use Rattle.journal_base.specs.Answers.{IsOfVolume}
use Rattle.journal_base.specs.Items.{Items, Holds, IsCorrupt}
use Rattle.journal_base.specs.Reads.{IsFirstFailing}
use Rattle.volume_base.specs.Log.{end_of}
use Rattle.volume_base.specs.declared.error.JournalError.{JournalError}
use Rattle.volume_base.specs.declared.error.JournalError.TheVariants.{ItemPruned, ItemOutOfRange, Corruption}

-- the positions from one up to another
abbrev pub positions : ℕ → ℕ → List ℕ
positions from to = range_with_len from (to - from)

-- the log begins behind the position, or ends at or before it, or has bytes there that are no item
abbrev pub IsUnreadAt : {Item : Type 0} → Type 0 → Items Item → ℕ → JournalError → Type 0
IsUnreadAt tells items p e =
    ((e ≡ ItemPruned p) × (tells → p < items.log.start))
    ⊎ (((e ≡ ItemOutOfRange p) × (tells → end_of items.log ≤ p))
    ⊎ ((e ≡ Corruption p) × (tells → IsCorrupt items p)))

-- the first of these items that can't be read
pub record IsFirstUnread {Item : Type 0} (tells : Type 0) (items : Items Item) (from to : ℕ) (e : JournalError) : Type 0 where
  pub position : ℕ
  pub low : from ≤ position
  pub high : position < to
  pub first : tells → IsFirstFailing items (positions from to) position
  pub why : IsUnreadAt tells items position e

-- Each item from one position up to another can be read.
abbrev pub AreReadable : {Item : Type 0} → Items Item → ℕ → ℕ → Type 0
AreReadable {Item} items from to = (p : ℕ) → from ≤ p → p < to → (x : Item) × Holds items p x × items.admits x

-- why items can't be read: by the volume, or for want of memory; or the first that can't be read says why
abbrev pub AreUnread : {Item : Type 0} → Type 0 → Items Item → ℕ → ℕ → JournalError → Type 0
AreUnread tells items from to e = IsOfVolume e ⊎ IsFirstUnread tells items from to e

-- the items of a list from one position up to another are allowed
abbrev pub AreAdmitted : {Item : Type 0} → (Item → Type 0) → List Item → ℕ → ℕ → Type 0
AreAdmitted {Item} admits list from to = (p : ℕ) (x : Item) → from ≤ p → p < to → slice_get list p ≡ Some x → admits x
