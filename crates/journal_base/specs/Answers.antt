-- Which errors a call answers.
use Rattle.std.specs.Prelude.{◌≡◌, ◌⊎◌, ℕ, Bool, true, false, List, [], ◌∷◌, Result, IsTrue, IsErrOf}
use Rattle.std.specs.List.{list_any}
use Rattle.volume_base.specs.Volume.{State}
use Rattle.volume_base.specs.declared.error.JournalError.{JournalError}
use Rattle.volume_base.specs.declared.error.JournalError.TheVariants.{ItemPruned, ItemOutOfRange, EmptyAppend, SizeOverflow, Corruption, Tree, Volume, Memory}

-- The variants of an error, each as a test.

abbrev pub item_pruned : JournalError → Bool
item_pruned (ItemPruned p) = true
item_pruned error = false

abbrev pub item_out_of_range : JournalError → Bool
item_out_of_range (ItemOutOfRange p) = true
item_out_of_range error = false

abbrev pub empty_append : JournalError → Bool
empty_append EmptyAppend = true
empty_append error = false

abbrev pub size_overflow : JournalError → Bool
size_overflow SizeOverflow = true
size_overflow error = false

abbrev pub corruption : JournalError → Bool
corruption (Corruption p) = true
corruption error = false

abbrev pub tree : JournalError → Bool
tree (Tree cause) = true
tree error = false

abbrev pub volume : JournalError → Bool
volume Volume = true
volume error = false

abbrev pub memory : JournalError → Bool
memory Memory = true
memory error = false

-- The error is of one of these variants.
abbrev pub IsAnyOf : List (JournalError → Bool) → JournalError → Type 0
IsAnyOf variants error = IsTrue (list_any (λ is. is error) variants)

-- a refusal by name: neither a failure of the outside nor want of memory
abbrev pub IsRefusal : JournalError → Type 0
IsRefusal = IsAnyOf (item_pruned ∷ item_out_of_range ∷ empty_append ∷ size_overflow ∷ corruption ∷ tree ∷ [])

-- a failure of the outside, or want of memory
abbrev pub IsOfVolume : JournalError → Type 0
IsOfVolume = IsAnyOf (volume ∷ memory ∷ [])

-- what a call answers that puts an end at a position
abbrev pub IsOfSize : JournalError → Type 0
IsOfSize = IsAnyOf (size_overflow ∷ volume ∷ memory ∷ [])

-- what an append of several items answers
abbrev pub IsOfAppend : JournalError → Type 0
IsOfAppend = IsAnyOf (empty_append ∷ size_overflow ∷ volume ∷ memory ∷ [])

-- what a read of an item answers
abbrev pub IsOfRead : JournalError → Type 0
IsOfRead = IsAnyOf (item_pruned ∷ item_out_of_range ∷ corruption ∷ volume ∷ memory ∷ [])

-- what a call answers that is given a size below the start
abbrev pub IsOfStart : JournalError → Type 0
IsOfStart = IsAnyOf (item_pruned ∷ volume ∷ memory ∷ [])

-- what a call answers that is given a range
abbrev pub IsOfRange : JournalError → Type 0
IsOfRange = IsAnyOf (item_pruned ∷ item_out_of_range ∷ [])

-- A read was refused at this position.
abbrev pub IsRefusedAt : {T : Type 0} → Result T JournalError → ℕ → Type 0
IsRefusedAt result position =
    IsErrOf result (ItemPruned position)
    ⊎ (IsErrOf result (ItemOutOfRange position) ⊎ IsErrOf result (Corruption position))

-- A refusal by name comes before anything is written.
abbrev pub RefusesUnwritten : {T : Type 0} → State → State → Result T JournalError → Type 0
RefusesUnwritten old new result =
    (error : JournalError) → IsErrOf result error → IsRefusal error → new.clock ≡ old.clock
