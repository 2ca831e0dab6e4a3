-- Nodes read from memory and from the log.
use Rattle.std.proofs.Common.{◌≡◌, inl, inr, ℕ, ◌-◌, ◌<◌, ◌≤◌, true, List, length, Some, None, Option, refl, sym, ◌∙◌, ap, subst, arith}
use Rattle.std.specs.Prelude.{All, slice_get, IsSome, is_some, Result, Ok, Err, IfErr}
use Rattle.std.specs.Result.{IsErrAnd}
use Rattle.std.proofs.lemmas.Bool.Decides.{leb_tells}
use Rattle.codec_base.specs.Codec.{Reading, IsLawful}
use Rattle.codec_base.specs.PartsLaws.{whole_again}
use Rattle.volume_base.specs.Log.{Log, IsItemAt, end_of}
use Rattle.volume_base.specs.Moments.{Image}
use Rattle.volume_base.specs.declared.error.JournalError.{JournalError}
use Rattle.volume_base.specs.declared.error.JournalError.TheVariants as journal
use Rattle.journal_base.specs.Answers.{IsOfRead}
use Rattle.journal_base.specs.Items.{Items, items_of, IsCorrupt}
use Rattle.journal_base.specs.View.{View}
use Rattle.volume_base.specs.Volume.{State, SameContents}
use Rattle.std.proofs.lemmas.Option.{slice_get_past}
use Rattle.tree_shape.proofs.NeededLemmas.{made_le}
use Rattle.tree_shape.specs.Shape.{Shape, made}
use Rattle.tree_store.specs.Errors.{from_journal}
use Rattle.tree_store.specs.Stores.{IsOutside, IsOutsideOr, IsReadFault, IsFirstAbsent}
use Rattle.tree_store.specs.declared.error.Error.{Error}
use Rattle.tree_store.specs.declared.error.Error.TheVariants.{Journal}
use Rattle.tree_store.proofs.StoreLemmas.{outside_or}
use Rattle.tree_core.specs.Tree.{IsSound, node_at, either}
use Rattle.merkle_full.specs.Full.{Full, IsHeld, found, read_at, logged, told_at}
use Rattle.merkle_full.specs.Reading.{IsUnreadAt, IsPast, IsFirstUnread}
use Rattle.merkle_full.proofs.ListLemmas.{all_at}

pub logged_item : {D : Type 0} (spelling : D → List ℕ) (admits : D → Type 0) (reads : List ℕ → Reading D) (log : Log) (p : ℕ) (d : D) → IsLawful spelling admits reads → IsItemAt log p (spelling d) → admits d → logged reads log p ≡ Some d
logged_item spelling admits reads log p d lawful item allowed = elim (leb_tells log.start p) [
  | inl low ↦ rw low.0 (ap (read_at reads) item.here ∙ ap found (whole_again spelling admits reads lawful d allowed))
  | inr past ↦ absurd (let le = item.low in omega (arith, le, past.1))
]

pub logged_below : {D : Type 0} (reads : List ℕ → Reading D) (log : Log) (p : ℕ) → p < log.start → logged reads log p ≡ None
logged_below reads log p lt = elim (leb_tells log.start p) [
  | inl low ↦ absurd (omega (arith, lt, low.1))
  | inr past ↦ rw past.0 refl
]

pub told_logged : {D : Type 0} (reads : List ℕ → Reading D) (t : Full D) (image : Image) (p : ℕ) (o : Option D) → node_at t.tree p ≡ None → logged reads (image.log t.log.name) p ≡ o → told_at reads t image p ≡ o
told_logged reads t image p o none is = ap (λ a. either a (logged reads (image.log t.log.name) p)) none ∙ is

-- ---- refusals of one read

-- the reasons of a journal's read are those of the tree above it
pub record ReadRefused {D : Type 0} (tells : Type 0) (items : Items D) (p : ℕ) (e : JournalError) : Type 0 where
  pub pruned : (q : ℕ) → e ≡ journal.ItemPruned q → (q ≡ p) × (tells → p < items.log.start)
  pub past : (q : ℕ) → e ≡ journal.ItemOutOfRange q → (q ≡ p) × (tells → end_of items.log ≤ p)
  pub corrupt : (q : ℕ) → e ≡ journal.Corruption q → (q ≡ p) × (tells → IsCorrupt items p)
  pub errors : IsOfRead e

pub unread_at : {F T D : Type 0} (tells : Type 0) (items : Items D) (p : ℕ) (r : Result T (Error F)) (e : JournalError) → IsErrAnd r (λ d. d ≡ from_journal e) → ReadRefused tells items p e → IfErr r (IsUnreadAt tells items p)
unread_at tells items p (Ok x) e is why = tt
unread_at tells items p (Err d) journal.Volume is why = inl (subst IsOutside (sym is) tt)
unread_at tells items p (Err d) journal.Memory is why = inl (subst IsOutside (sym is) tt)
unread_at tells items p (Err d) (journal.ItemPruned q) is why = let y = why.pruned q refl in inr (inl (is ∙ ap (λ (n : ℕ). Journal (journal.ItemPruned n)) y.0, y.1))
unread_at tells items p (Err d) (journal.ItemOutOfRange q) is why = let y = why.past q refl in inr (inr (inl (is ∙ ap (λ (n : ℕ). Journal (journal.ItemOutOfRange n)) y.0, y.1)))
unread_at tells items p (Err d) (journal.Corruption q) is why = let y = why.corrupt q refl in inr (inr (inr (is ∙ ap (λ (n : ℕ). Journal (journal.Corruption n)) y.0, y.1)))
unread_at tells items p (Err d) journal.SizeOverflow is why = absurd (let bad = why.errors in cc)
unread_at tells items p (Err d) journal.EmptyAppend is why = absurd (let bad = why.errors in cc)
unread_at tells items p (Err d) (journal.Tree cause) is why = absurd (let bad = why.errors in cc)

-- what a refusal comes to
pub err_then : {F T : Type 0} (P Q R : Error F → Type 0) (r : Result T (Error F)) → IsErrAnd r P → IfErr r Q → ((e : Error F) → Q e → R e) → IsErrAnd r R
err_then P Q R (Ok x) is of then = absurd is
err_then P Q R (Err e) is of then = then e of

pub if_then : {F T : Type 0} (Q R : Error F → Type 0) (r : Result T (Error F)) → IfErr r Q → ((e : Error F) → Q e → R e) → IfErr r R
if_then Q R (Ok x) of then = tt
if_then Q R (Err e) of then = then e of

-- each of them is a fault of a read
pub read_fault : {F T : Type 0} (r : Result T (Error F)) (e : JournalError) → IsErrAnd r (λ d. d ≡ from_journal e) → IsOfRead e → IfErr r IsReadFault
read_fault (Ok x) e is of = tt
read_fault (Err d) journal.Volume is of = subst IsReadFault (sym is) tt
read_fault (Err d) journal.Memory is of = subst IsReadFault (sym is) tt
read_fault (Err d) (journal.ItemPruned q) is of = subst IsReadFault (sym is) tt
read_fault (Err d) (journal.ItemOutOfRange q) is of = subst IsReadFault (sym is) tt
read_fault (Err d) (journal.Corruption q) is of = subst IsReadFault (sym is) tt
read_fault (Err d) journal.SizeOverflow is of = absurd (let bad = of in cc)
read_fault (Err d) journal.EmptyAppend is of = absurd (let bad = of in cc)
read_fault (Err d) (journal.Tree cause) is of = absurd (let bad = of in cc)

-- where a log holds digests and doesn't begin past the position, only its end refuses
pub unread_past : {F D : Type 0} (tells : Type 0) (items : Items D) (p : ℕ) (e : Error F) → tells → items.log.start ≤ p → (IsCorrupt items p → ⊥) → IsUnreadAt tells items p e → IsPast p e
unread_past tells items p e told low whole (inl out) = inl out
unread_past tells items p e told low whole (inr (inl (is, lt))) = absurd (let bad = lt told in omega (arith, bad, low))
unread_past tells items p e told low whole (inr (inr (inl (is, le)))) = inr is
unread_past tells items p e told low whole (inr (inr (inr (is, bad)))) = absurd (whole (bad told))

-- and where it doesn't end before it either, only the outside does
pub unread_within : {F D : Type 0} (tells : Type 0) (items : Items D) (p : ℕ) (e : Error F) → tells → items.log.start ≤ p → (IsCorrupt items p → ⊥) → (end_of items.log ≤ p → ⊥) → IsUnreadAt tells items p e → IsOutside e
unread_within tells items p e told low whole within (inl out) = out
unread_within tells items p e told low whole within (inr (inl (is, lt))) = absurd (let bad = lt told in omega (arith, bad, low))
unread_within tells items p e told low whole within (inr (inr (inl (is, le)))) = absurd (within (le told))
unread_within tells items p e told low whole within (inr (inr (inr (is, bad)))) = absurd (whole (bad told))

pub not_corrupt : {D : Type 0} (s : Shape) (t : Full D) (image : Image) (items : Items D) (p : ℕ) → items.log ≡ image.log t.log.name → IsHeld s items.spelling items.admits t image → IsCorrupt items p → ⊥
not_corrupt s t image items p same held corrupt =
    let here : slice_get (image.log t.log.name).items (p - (image.log t.log.name).start) ≡ Some corrupt.bytes = ap (λ (l : Log). slice_get l.items (p - l.start)) (sym same) ∙ corrupt.here.here in
    let there = held.digests (p - (image.log t.log.name).start) corrupt.bytes here in
    corrupt.unspelled there.digest there.allowed there.spelled

pub not_past : {D : Type 0} (s : Shape) (spelling : D → List ℕ) (admits : D → Type 0) (t : Full D) (image : Image) (p : ℕ) → IsHeld s spelling admits t image → IsSound s t.tree → node_at t.tree p ≡ None → p < length (made s t.tree.leaves) → end_of (image.log t.log.name) ≤ p → ⊥
not_past {D = D} s spelling admits t image p held sound none lt past =
    let has : IsSome (node_at t.tree p) = sound.held.since p (omega (arith, held.end_is, past)) lt in
    let bad : is_some none_of ≡ true = subst (λ (o : Option D). is_some o ≡ true) none has in
    absurd cc
  where
    none_of : Option D
    none_of = None

-- at or past the end nothing is told
pub told_past : {D : Type 0} (s : Shape) (spelling : D → List ℕ) (admits : D → Type 0) (reads : List ℕ → Reading D) (t : Full D) (image : Image) (p : ℕ) → IsHeld s spelling admits t image → IsSound s t.tree → length (made s t.tree.leaves) ≤ p → told_at reads t image p ≡ None
told_past s spelling admits reads t image p held sound past =
    let log = image.log t.log.name in
    let le = made_le s t.tree.boundary t.tree.leaves sound.within in
    let low : log.start ≤ p = omega (arith, held.end_is, le, past) in
    let none : slice_get log.items (p - log.start) ≡ None = slice_get_past log.items (p - log.start) (omega (arith, held.end_is, le, past)) in
    told_logged reads t image p None (sound.held.ended p past) (elim (leb_tells log.start p) [
      | inl ok ↦ rw ok.0 (ap (read_at reads) none)
      | inr bad ↦ rw bad.0 refl
    ])

-- ---- refusals of several reads

-- a log that is as before refuses as before
pub unread_same : {F D C : Type 0} (tells : Type 0) (spelling : D → List ℕ) (admits : C → D → Type 0) (view : View C) (old new : State) (p : ℕ) (e : Error F) → (tells → SameContents old new) → IsUnreadAt tells (items_of spelling admits view new) p e → IsUnreadAt tells (items_of spelling admits view old) p e
unread_same tells spelling admits view old new p e same (inl out) = inl out
unread_same tells spelling admits view old new p e same (inr (inl (is, lt))) = inr (inl (is, λ told. subst (λ (l : Log). p < l.start) ((same told).logs view.name) (lt told)))
unread_same tells spelling admits view old new p e same (inr (inr (inl (is, le)))) = inr (inr (inl (is, λ told. subst (λ (l : Log). end_of l ≤ p) ((same told).logs view.name) (le told))))
unread_same tells spelling admits view old new p e same (inr (inr (inr (is, bad)))) =
    inr (inr (inr (is, λ told. subst (λ (l : Log). IsCorrupt (record { log = l; spelling = spelling; admits = admits view.codec }) p) ((same told).logs view.name) (bad told))))

-- one at or past the end is refused by the outside, or named so
pub first_of_past : {F D : Type 0} (told : ℕ → Option D) (end p : ℕ) (ps : List ℕ) (e : Error F) → end ≤ p → IsFirstAbsent told ps p → IsPast p e → IsFirstUnread told end ps e
first_of_past told end p ps e le absent (inl out) = inl out
first_of_past told end p ps e le absent (inr is) = inr (p, absent, inr (is, le))

-- where all positions stand before the end, the first absent is named as pruned
pub first_within : {F D : Type 0} (told : ℕ → Option D) (end : ℕ) (ps : List ℕ) (e : Error F) → All (λ p. p < end) ps → IsFirstUnread told end ps e → IsOutsideOr told ps e
first_within told end ps e below (inl out) = outside_or told ps e out
first_within told end ps e below (inr (p, absent, inl (is, lt))) = subst (IsOutsideOr told ps) (sym is) absent
first_within told end ps e below (inr (p, absent, inr (is, le))) = absurd (let lt = all_at (λ q. q < end) ps absent.index p below absent.here in omega (arith, lt, le))

-- where each is told, only the outside refuses
pub none_unread : {F D : Type 0} (told : ℕ → Option D) (end : ℕ) (ps : List ℕ) (e : Error F) → ((i p : ℕ) → slice_get ps i ≡ Some p → is_some (told p) ≡ true) → IsFirstUnread told end ps e → IsOutside e
none_unread told end ps e there (inl out) = out
none_unread told end ps e there (inr (p, absent, why)) = absurd (let some = there absent.index p absent.here in let none = ap is_some absent.absent in cc)
