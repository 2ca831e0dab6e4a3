-- What the calls that make a journal durable leave of it.
use Rattle.std.specs.Prelude.{◌≡◌, ◌⊎◌, ◌||◌, ℕ, Bool, max, Result, Ok, Err}
use Rattle.journal_base.specs.Items.{Items}
use Rattle.journal_base.specs.View.{SameButBounds, after_sync}
use Rattle.journal_base.specs.declared.ticket.SyncTicket.{SyncTicket}
use Rattle.journal_base.specs.declared.ticket.SyncTicket.TheVariants.{Done, Failed}
use Rattle.merkle_full.specs.Flushing.{IsSameTree, IsOfFlush, after_start}
use Rattle.merkle_full.specs.Full.{Full}
use Rattle.merkle_full.specs.Pruning as tree_pruning
use Rattle.merkle_full.specs.Pruning.{at_boundary}
use Rattle.tree_core.specs.Tree.{prune_answer}
use Rattle.tree_shape.specs.Shape.{Shape}
use Rattle.tree_store.specs.declared.error.Error as tree_error
use Rattle.auth_journal.specs.Errors.{from_tree}
use Rattle.auth_journal.specs.Joined.{Joined}
use Rattle.auth_journal.specs.declared.error.Error.{Error}
use Rattle.auth_journal.specs.declared.error.Error.TheVariants as joined

-- It is the other journal, with nodes that were flushed.
pub record IsFlushed {D Codec : Type 0} (j k : Joined D Codec) : Type 0 where
  pub items : k.items ≡ j.items
  pub tree : IsSameTree j.tree k.tree
  pub bagging : k.bagging ≡ j.bagging
  pub failed : k.failed ≡ j.failed

-- It is the other journal after a started sync: the log whose sync has failed keeps that, and so does the journal.
pub record IsStarted {D Codec : Type 0} (j k : Joined D Codec) (fails : Bool) : Type 0 where
  pub items : k.items ≡ after_sync j.items k.items.failed
  pub tree : IsSameTree (after_start j.tree k.tree.log.failed) k.tree
  pub bagging : k.bagging ≡ j.bagging
  pub failed : k.failed ≡ fails
  pub ticket : fails ≡ (k.items.failed || k.tree.log.failed)

-- It is the other journal, whose log may begin later.
pub record IsCut {D Codec : Type 0} (j k : Joined D Codec) : Type 0 where
  pub items : SameButBounds j.items k.items
  pub tree : k.tree ≡ j.tree
  pub bagging : k.bagging ≡ j.bagging
  pub failed : k.failed ≡ j.failed

-- It is the other journal, whose log begins later, and whose tree is pruned there, where it wasn't pruned past that.
pub record IsPrunedTo {D Codec : Type 0} (j k : Joined D Codec) : Type 0 where
  pub items : SameButBounds j.items k.items
  pub tree : IsSameTree (at_boundary j.tree (max j.tree.boundary k.items.start)) k.tree
  pub bagging : k.bagging ≡ j.bagging
  pub failed : k.failed ≡ j.failed

-- an error of the tree of which this holds, as the journal's
abbrev pub IsFromTree : {F : Type 0} → (tree_error.Error F → Type 0) → Error F → Type 0
IsFromTree {F} P e = (d : tree_error.Error F) × (e ≡ from_tree d) × P d

-- Why a tree isn't pruned to a place, whatever the volume holds: it hasn't so many leaves; or the tree's own prune says why.
abbrev pub IsTreeUnpruned : {F D : Type 0} → Shape → Type 0 → Full D → Items D → ℕ → tree_error.Error F → Type 0
IsTreeUnpruned s tells t items place e = (prune_answer t.tree.leaves place ≡ Err e) ⊎ tree_pruning.IsOfPrune s tells t items place e

-- Why a journal isn't pruned: as its sync; or, once it was synced, its tree isn't pruned to this place, where the log of items begins then.
abbrev pub IsJournalUnpruned : {F D : Type 0} → Shape → Type 0 → Full D → Items D → ℕ → tree_error.Error F → Type 0
IsJournalUnpruned {D = D} s tells t items begins e =
    IsOfFlush s t e
    ⊎ ((u : Full D) × IsSameTree t u × ((place : ℕ) × (tells → place ≡ begins) × IsTreeUnpruned s tells u items place e))

-- what the sync itself has come to
abbrev pub sync_of : {F : Type 0} → SyncTicket → Result (Unit {0}) (Error F)
sync_of Done = Ok tt
sync_of Failed = Err joined.Volume

-- what a call that answers a ticket has come to: beside a failed ticket it is the volume's failure
abbrev pub outcome : {F T : Type 0} → Result (T × SyncTicket) (Error F) → Result (Unit {0}) (Error F)
outcome (Ok made) = sync_of made.1
outcome (Err error) = Err error
