-- Errors that come as what they are.
use Rattle.std.proofs.Common.{◌≡◌, inl, inr, ℕ, List, Ok, Err, sym, subst}
use Rattle.std.specs.Prelude.{Result, IfErr}
use Rattle.std.specs.Result.{IsErrAnd}
use Rattle.volume_base.specs.declared.error.JournalError.{JournalError}
use Rattle.volume_base.specs.declared.error.JournalError.TheVariants as journal
use Rattle.tree_shape.specs.Shape.{Shape}
use Rattle.tree_store.specs.Errors.{from_journal}
use Rattle.tree_store.specs.Stores.{IsOutside}
use Rattle.tree_store.specs.declared.error.Error.{Error}
use Rattle.tree_store.specs.declared.error.Error.TheVariants.{LocationOverflow, RangeOutOfBounds, LeafOutOfBounds, Empty, ElementPruned, DuplicateLocation, UnsortedLocation, MissingNode, InvalidPinnedNodes, StaleBatch, AncestorDropped, DataCorrupted, Journal, Volume, Memory}
use Rattle.merkle_full.specs.Flushing.{IsOfFlush}
use Rattle.merkle_full.specs.Full.{Full}
use Rattle.merkle_full.specs.Lifted.{IsLifted}
use Rattle.merkle_full.specs.Recovering.{Source, NotRecovered, NotAllRecovered, NotReopened}

journal_lifted : (F : Type 0) (e : JournalError) → IsLifted (from_journal {F = F} e)
journal_lifted F (journal.ItemPruned p) = tt
journal_lifted F (journal.ItemOutOfRange p) = tt
journal_lifted F journal.EmptyAppend = tt
journal_lifted F journal.SizeOverflow = tt
journal_lifted F (journal.Corruption p) = tt
journal_lifted F (journal.Tree cause) = tt
journal_lifted F journal.Volume = tt
journal_lifted F journal.Memory = tt

-- what a `?` makes of the journal's error
pub err_lifted : {F T : Type 0} (r : Result T (Error F)) (e : JournalError) → IsErrAnd r (λ d. d ≡ from_journal e) → IfErr r IsLifted
err_lifted (Ok x) e is = tt
err_lifted {F = F} (Err d) e is = subst IsLifted (sym is) (journal_lifted F e)

-- what is made of it by hand
pub made_lifted : {F : Type 0} (d : Error F) (e : JournalError) → d ≡ from_journal e → IsLifted d
made_lifted {F = F} d e is = subst IsLifted (sym is) (journal_lifted F e)

pub outside_lifted : {F : Type 0} (e : Error F) → IsOutside e → IsLifted e
outside_lifted (LocationOverflow l) out = tt
outside_lifted (RangeOutOfBounds l) out = tt
outside_lifted (LeafOutOfBounds l) out = tt
outside_lifted Empty out = tt
outside_lifted (ElementPruned p) out = tt
outside_lifted (DuplicateLocation l) out = tt
outside_lifted (UnsortedLocation l) out = tt
outside_lifted (MissingNode p) out = tt
outside_lifted InvalidPinnedNodes out = tt
outside_lifted StaleBatch out = tt
outside_lifted (AncestorDropped x y) out = tt
outside_lifted (DataCorrupted d) out = tt
outside_lifted (Journal j) out = absurd out
outside_lifted Volume out = tt
outside_lifted Memory out = tt

pub memory_lifted : {F T : Type 0} (r : Result T (Error F)) → IfErr r (λ e. e ≡ Memory) → IfErr r IsLifted
memory_lifted (Ok x) is = tt
memory_lifted (Err e) is = subst IsLifted (sym is) tt

not_recovered : {F D : Type 0} (known : Type 0) (source : Source D) (p : ℕ) (e : Error F) → NotRecovered known source p e → IsLifted e
not_recovered known source p e (inl out) = outside_lifted e out
not_recovered known source p e (inr (inl (is, bad))) = subst IsLifted (sym is) tt
not_recovered known source p e (inr (inr (none, inl (is, f)))) = subst IsLifted (sym is) tt
not_recovered known source p e (inr (inr (none, inr (is, f)))) = subst IsLifted (sym is) tt

pub not_all_lifted : {F D : Type 0} (known : Type 0) (source : Source D) (ps : List ℕ) (e : Error F) → NotAllRecovered known source ps e → IsLifted e
not_all_lifted known source ps e (inl out) = outside_lifted e out
not_all_lifted known source ps e (inr lost) = not_recovered known source lost.position e lost.why

pub not_reopened_lifted : {F D : Type 0} (known : Type 0) (source : Source D) (s : Shape) (leaves boundary : ℕ) (e : Error F) → NotReopened known source s leaves boundary e → IsLifted e
not_reopened_lifted known source s leaves boundary e (inl lost) = not_all_lifted known source _ e lost
not_reopened_lifted known source s leaves boundary e (inr (all, lost)) = not_all_lifted known source _ e lost

pub flush_lifted : {F D : Type 0} (s : Shape) (t : Full D) (e : Error F) → IsOfFlush s t e → IsLifted e
flush_lifted s t e (inl out) = outside_lifted e out
flush_lifted s t e (inr (inl (p, low, lt, none, is))) = subst IsLifted (sym is) tt
flush_lifted s t e (inr (inr is)) = subst IsLifted (sym is) tt
