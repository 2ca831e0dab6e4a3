-- What the entries of a log say of items.
use Rattle.std.specs.Prelude.{◌≡◌, ◌≤◌, ℕ, List, Result, Some, map, slice_get, IfOk}
use Rattle.journal_base.specs.View.{View, log_of}
use Rattle.volume_base.specs.Log.{Log, IsItemAt}
use Rattle.volume_base.specs.Bounds.{IsRunOf}
use Rattle.volume_base.specs.Volume.{State}
use Rattle.volume_base.specs.declared.error.JournalError.{JournalError}

-- The log is a run of the list: it holds the spellings of the list's items from its start on, to the list's end.
abbrev pub Spells : {A : Type 0} → (A → List ℕ) → List A → Log → Type 0
Spells spelling list log = IsRunOf (map spelling list) log

-- A log of items: its entries, how an item is spelled, and which items are allowed.
pub record Items (A : Type 0) : Type 1 where
  pub log : Log
  pub spelling : A → List ℕ
  pub admits : A → Type 0

-- what a volume holds of a journal, as items of this spelling, of which the journal's codec allows these
abbrev pub items_of : {A Codec : Type 0} → (A → List ℕ) → (Codec → A → Type 0) → View Codec → State → Items A
items_of spelling admits view state = record {
  log = log_of view state;
  spelling = spelling;
  admits = admits view.codec;
}

-- This item stands at the position.
abbrev pub Holds : {A : Type 0} → Items A → ℕ → A → Type 0
Holds items position item = IsItemAt items.log position (items.spelling item)

-- Bytes stand at the position, and they are the spelling of no item that is allowed.
pub record IsCorrupt {A : Type 0} (items : Items A) (position : ℕ) : Type 0 where
  pub bytes : List ℕ
  pub here : IsItemAt items.log position bytes
  pub unspelled : (x : A) → items.admits x → bytes ≡ items.spelling x → ⊥

-- Where the log is a run of a list and has the position, a read that answers Ok gives the list's item there, if it is
-- allowed.
abbrev pub GivesListed : {A : Type 0} → Items A → ℕ → Result A JournalError → Type 0
GivesListed {A} items position result =
    (list : List A) (x : A)
    → Spells items.spelling list items.log
    → items.log.start ≤ position
    → slice_get list position ≡ Some x
    → items.admits x
    → IfOk result (λ item. item ≡ x)
