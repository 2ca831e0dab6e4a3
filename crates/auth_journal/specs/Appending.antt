-- Items put behind a journal's.
use Rattle.std.specs.Prelude.{◌≡◌, ℕ, ◌+◌, ◌-◌, ◌^◌, ◌<◌, ◌≤◌, List, length, map, drop, Result, IfOk, OnOk, IsErrOf}
use Rattle.volume_base.specs.Log.{end_of, appended, Grows}
use Rattle.volume_base.specs.Volume.{State, LogCall, Writes}
use Rattle.journal_base.specs.View.{View, log_of, SameButBounds, IsHeld}
use Rattle.auth_journal.specs.Batched.{SealedItems, joined_items}
use Rattle.auth_journal.specs.declared.error.Error.{Error}
use Rattle.auth_journal.specs.declared.error.Error.TheVariants as joined

-- the items of a sealed batch from so many leaves on
abbrev pub unapplied : {D Item : Type 0} → SealedItems D Item → ℕ → List Item
unapplied b leaves = drop (leaves - b.nodes.first) (joined_items b.items)

-- A call puts these items behind those of a journal's log; of no items nothing is written.
pub record Appends {Codec Item T E : Type 0} (tells : Type 0) (fault : E) (spelling : Item → List ℕ) (view : View Codec) (shown : T → View Codec)
    (items : List Item) (old new : State) (result : Result T E) : Type 0 where
  pub fits : OnOk result (tells → 0 < length items → end_of (log_of view old) + length items ≤ 2 ^ 64 - 1)
  pub made : IfOk result (λ t. SameButBounds view (shown t))
  pub held : IfOk result (λ t. tells → IsHeld view old → IsHeld (shown t) new)
  pub appended : OnOk result (tells → log_of view new ≡ appended (log_of view old) (map spelling items))
  pub log : tells → LogCall view.name (Grows (log_of view old) (map spelling items)) old new
  pub none : length items ≡ 0 → new.clock ≡ old.clock
  pub writes : Writes tells fault old new result

-- a refusal by name: neither want of memory nor a failure of the volume
abbrev pub IsNamed : {F : Type 0} → Error F → Type 0
IsNamed (joined.Merkle e) = Unit {0}
IsNamed (joined.Journal e) = Unit {0}
IsNamed _ = ⊥

-- Such a refusal comes before anything is written.
abbrev pub NamesUnwritten : {F T : Type 0} → State → State → Result T (Error F) → Type 0
NamesUnwritten {F} old new result = (e : Error F) → IsErrOf result e → IsNamed e → new.clock ≡ old.clock
