-- Errors of the log and of the tree below a journal.
use Rattle.std.proofs.Common.{◌≡◌, Ok, Err, refl, sym, ◌∙◌, ap, subst}
use Rattle.std.specs.Prelude.{Result, IsErrOf}
use Rattle.std.specs.Result.{IsErrAnd}
use Rattle.volume_base.specs.declared.error.JournalError.{JournalError}
use Rattle.volume_base.specs.declared.error.JournalError.TheVariants as journal
use Rattle.tree_store.specs.declared.error.Error as tree_error
use Rattle.tree_store.specs.declared.error.Error.TheVariants as tree
use Rattle.volume_base.specs.Volume.{State}
use Rattle.journal_base.specs.Answers.{IsOfSize, IsOfVolume, IsRefusal, RefusesUnwritten}
use Rattle.tree_store.specs.Stores as stores
use Rattle.tree_shape.specs.Shape.{Shape}
use Rattle.tree_core.specs.Applied.{RefusedByTree}
use Rattle.tree_core.specs.Batches.{Sealed}
use Rattle.tree_core.specs.Tree.{Tree}
use Rattle.auth_journal.specs.Appending.{IsNamed, NamesUnwritten}
use Rattle.auth_journal.specs.Errors.{from_journal, from_tree, IsOutside}
use Rattle.auth_journal.specs.declared.error.Error.{Error}
use Rattle.auth_journal.specs.declared.error.Error.TheVariants as joined

-- a volume's failure above a log is one of the log
pub volume_from : {F : Type 0} (e : JournalError) → from_journal {F = F} e ≡ joined.Volume → e ≡ journal.Volume
volume_from journal.Volume is = refl
volume_from journal.Memory is = absurd cc
volume_from (journal.ItemPruned p) is = absurd cc
volume_from (journal.ItemOutOfRange p) is = absurd cc
volume_from (journal.Corruption p) is = absurd cc
volume_from journal.SizeOverflow is = absurd cc
volume_from journal.EmptyAppend is = absurd cc
volume_from (journal.Tree cause) is = absurd cc

-- what is wrapped is the log's own error
pub journal_from : {F : Type 0} (e d : JournalError) → from_journal {F = F} e ≡ joined.Journal d → e ≡ d
journal_from journal.Volume d is = absurd cc
journal_from journal.Memory d is = absurd cc
journal_from (journal.ItemPruned p) d is = cc
journal_from (journal.ItemOutOfRange p) d is = cc
journal_from (journal.Corruption p) d is = cc
journal_from journal.SizeOverflow d is = cc
journal_from journal.EmptyAppend d is = cc
journal_from (journal.Tree cause) d is = cc

pub never_merkle : {F : Type 0} (e : JournalError) (d : tree_error.Error F) → from_journal e ≡ joined.Merkle d → ⊥
never_merkle journal.Volume d is = cc
never_merkle journal.Memory d is = cc
never_merkle (journal.ItemPruned p) d is = cc
never_merkle (journal.ItemOutOfRange p) d is = cc
never_merkle (journal.Corruption p) d is = cc
never_merkle journal.SizeOverflow d is = cc
never_merkle journal.EmptyAppend d is = cc
never_merkle (journal.Tree cause) d is = cc

-- of an append's errors the log's own is that its end would be too great
pub size_from : {F : Type 0} (e d : JournalError) → IsOfSize e → from_journal {F = F} e ≡ joined.Journal d → (e ≡ journal.SizeOverflow) × (d ≡ journal.SizeOverflow)
size_from journal.Volume d of is = absurd cc
size_from journal.Memory d of is = absurd cc
size_from (journal.ItemPruned p) d of is = absurd cc
size_from (journal.ItemOutOfRange p) d of is = absurd cc
size_from (journal.Corruption p) d of is = absurd cc
size_from journal.SizeOverflow d of is = (refl, cc)
size_from journal.EmptyAppend d of is = absurd cc
size_from (journal.Tree cause) d of is = absurd cc

named_below : {F : Type 0} (e : JournalError) (d : Error F) → d ≡ from_journal e → IsNamed d → IsRefusal e
named_below journal.Volume d is named = absurd (subst IsNamed is named)
named_below journal.Memory d is named = absurd (subst IsNamed is named)
named_below (journal.ItemPruned p) d is named = refl
named_below (journal.ItemOutOfRange p) d is named = refl
named_below (journal.Corruption p) d is named = refl
named_below journal.SizeOverflow d is named = refl
named_below journal.EmptyAppend d is named = refl
named_below (journal.Tree cause) d is named = refl

-- the error that is answered
answered : {T E : Type 0} (r : Result T E) (e d : E) → IsErrAnd r (λ x. x ≡ d) → r ≡ Err e → e ≡ d
answered (Ok x) e d is at = absurd is
answered (Err x) e d is at = let same : x ≡ e = cc in sym same ∙ is

pub answered_size : {F T : Type 0} (result : Result T (Error F)) (e d : JournalError) → IsErrAnd result (λ x. x ≡ from_journal e) → IsOfSize e → IsErrOf result (joined.Journal d) → (e ≡ journal.SizeOverflow) × (d ≡ journal.SizeOverflow)
answered_size result e d is of at = size_from e d of (sym (answered result (joined.Journal d) (from_journal e) is at))

pub answered_merkle : {F T : Type 0} (result : Result T (Error F)) (e : JournalError) (d : tree_error.Error F) → IsErrAnd result (λ x. x ≡ from_journal e) → IsErrOf result (joined.Merkle d) → ⊥
answered_merkle result e d is at = never_merkle e d (sym (answered result (joined.Merkle d) (from_journal e) is at))

pub unwritten_below : {F S T : Type 0} (a b : State) (r : Result S JournalError) (e : JournalError) (result : Result T (Error F)) → r ≡ Err e → IsErrAnd result (λ x. x ≡ from_journal e)
    → RefusesUnwritten a b r → NamesUnwritten a b result
unwritten_below a b r e result was is refused = λ d at named. refused e was (named_below e d (answered result d (from_journal e) is at) named)

-- a tree that refuses a batch doesn't say that the volume failed
pub never_volume : {F D : Type 0} (s : Shape) (t : Tree D) (c : Sealed D) (e : tree_error.Error F) → RefusedByTree s t c e → from_tree e ≡ joined.Volume → ⊥
never_volume s t c tree.StaleBatch why is = cc
never_volume s t c (tree.AncestorDropped x y) why is = cc
never_volume s t c tree.Memory why is = cc
never_volume s t c _ why is = why

-- what is refused for want of memory is no refusal of the tree
pub memory_not_merkle : {F T : Type 0} (result : Result T (Error F)) (e d : tree_error.Error F) → IsErrAnd result (λ x. x ≡ from_tree e) → e ≡ tree.Memory → IsErrOf result (joined.Merkle d) → ⊥
memory_not_merkle result e d is memory at = let same : joined.Merkle d ≡ joined.Memory = answered result (joined.Merkle d) (from_tree e) is at ∙ ap from_tree memory in cc

-- a volume's failure above a tree is one of the tree
pub volume_from_tree : {F : Type 0} (e : tree_error.Error F) → from_tree e ≡ joined.Volume → e ≡ tree.Volume
volume_from_tree tree.Volume is = refl
volume_from_tree tree.Memory is = absurd cc
volume_from_tree _ is = absurd cc

-- a failure of the outside stays one
pub tree_outside : {F : Type 0} (e : tree_error.Error F) → stores.IsOutside e → IsOutside (from_tree e)
tree_outside tree.Volume o = tt
tree_outside tree.Memory o = tt
tree_outside _ o = absurd o

pub log_outside : (F : Type 0) (e : JournalError) → IsOfVolume e → IsOutside (from_journal {F = F} e)
log_outside F journal.Volume o = tt
log_outside F journal.Memory o = tt
log_outside F (journal.ItemPruned p) o = absurd cc
log_outside F (journal.ItemOutOfRange p) o = absurd cc
log_outside F (journal.Corruption p) o = absurd cc
log_outside F journal.SizeOverflow o = absurd cc
log_outside F journal.EmptyAppend o = absurd cc
log_outside F (journal.Tree cause) o = absurd cc

-- the error that a call handed on
pub handed_error : {T E : Type 0} (result : Result T E) (e d : E) → IsErrAnd result (λ x. x ≡ e) → IsErrOf result d → e ≡ d
handed_error (Ok y) e d is at = absurd is
handed_error (Err x) e d is at = let same : x ≡ d = cc in sym is ∙ same
