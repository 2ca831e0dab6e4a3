-- Errors of a journal and of a volume below a tree.
use Rattle.std.proofs.Common.{◌≡◌, ◌⊎◌, inl, inr, Ok, Err, sym, ◌∙◌, ap, subst}
use Rattle.std.specs.Prelude.{Result, IsErrOf, IfErr}
use Rattle.std.specs.Result.{IsErrAnd}
use Rattle.volume_base.specs.declared.error.JournalError.{JournalError}
use Rattle.volume_base.specs.declared.error.JournalError.TheVariants as journal
use Rattle.tree_store.specs.Errors.{from_journal}
use Rattle.tree_store.specs.Stores.{IsOutside}
use Rattle.tree_store.specs.declared.error.Error.{Error}
use Rattle.tree_store.specs.declared.error.Error.TheVariants as tree

-- a volume's failure above a journal is one of the journal
pub volume_below : {F T U : Type 0} (s : Result T (Error F)) (e : JournalError) (r : Result U JournalError) → r ≡ Err e → IsErrAnd s (λ d. d ≡ from_journal e)
    → IsErrOf s tree.Volume → IsErrOf r journal.Volume
volume_below (Ok x) e r was is fault = absurd is
volume_below (Err d) journal.Volume r was is fault = was
volume_below (Err d) journal.Memory r was is fault = absurd cc
volume_below (Err d) (journal.ItemPruned p) r was is fault = absurd cc
volume_below (Err d) (journal.ItemOutOfRange p) r was is fault = absurd cc
volume_below (Err d) (journal.Corruption p) r was is fault = absurd cc
volume_below (Err d) journal.SizeOverflow r was is fault = absurd cc
volume_below (Err d) journal.EmptyAppend r was is fault = absurd cc
volume_below (Err d) (journal.Tree cause) r was is fault = absurd cc

-- a journal's want of memory and its volume's failure are those of the tree above it
pub outside_below : {F T : Type 0} (r : Result T (Error F)) (e : JournalError) → IsErrAnd r (λ d. d ≡ from_journal e) → (e ≡ journal.Volume) ⊎ (e ≡ journal.Memory)
    → IfErr r IsOutside
outside_below (Ok x) e is of = tt
outside_below (Err d) e is of = elim of [
  | inl volume ↦ subst IsOutside (sym (is ∙ ap from_journal volume)) tt
  | inr memory ↦ subst IsOutside (sym (is ∙ ap from_journal memory)) tt
]
