-- What a flush makes of a tree: the whole list in the log, and memory at rest.
use Rattle.std.proofs.Common.{◌≡◌, inl, inr, ℕ, ◌-◌, ◌<◌, ◌≤◌, Bool, true, false, cond, List, ◌++◌, length, map, take, drop, None, refl, sym, ◌∙◌, ap, subst, arith, length-append}
use Rattle.std.specs.Prelude.{◌⊎◌, ◌||◌, is_some, Result, Ok, Err, IfErr}
use Rattle.std.specs.Result.{IsErrAnd}
use Rattle.std.proofs.lemmas.List.{take_all, take-append-drop, length-map}
use Rattle.std.proofs.lemmas.Option.{slice_get_within}
use Rattle.volume_base.specs.Log.{Log, end_of, appended}
use Rattle.volume_base.specs.Moments.{Image}
use Rattle.volume_base.specs.Volume.{Map}
use Rattle.volume_base.specs.declared.error.JournalError.{JournalError}
use Rattle.volume_base.specs.declared.error.JournalError.TheVariants as journal
use Rattle.journal_base.specs.Answers.{IsOfSize}
use Rattle.journal_base.specs.Items.{Spells}
use Rattle.journal_base.proofs.ItemLemmas.{spells_appended}
use Rattle.tree_shape.specs.Hashing.{Hashing}
use Rattle.tree_shape.specs.Kept.{KeepsPeaks}
use Rattle.tree_shape.specs.Shape.{Shape, made, IsLawful}
use Rattle.tree_shape.specs.Slow.{nodes}
use Rattle.tree_shape.proofs.NeededLemmas.{made_le}
use Rattle.tree_store.specs.Errors.{from_journal}
use Rattle.tree_store.specs.Stored.{IsMapOf}
use Rattle.tree_store.specs.Stores.{IsOutside}
use Rattle.tree_store.specs.declared.error.Error.{Error}
use Rattle.tree_store.specs.declared.error.Error.TheVariants as tree
use Rattle.tree_core.specs.Pruned.{is_peak_at}
use Rattle.tree_core.specs.Tree.{Tree, IsOf, IsSound, IsRested, node_at, rests}
use Rattle.tree_core.proofs.PrunedLemmas.{pruned_peak, peak_stands}
use Rattle.merkle_full.specs.Flushing.{IsSameTree, IsOfFlush}
use Rattle.merkle_full.specs.Full.{Full, IsKept, Rests}
use Rattle.merkle_full.specs.Lists.{IsFullOf}
use Rattle.merkle_full.proofs.FullLemmas.{length-nodes}
use Rattle.merkle_full.proofs.PeakLemmas.{peak_from}
use Rattle.merkle_full.proofs.RepinLemmas.{or_splits}

pub flushed_full : {D : Type 0} (s : Shape) (h : Hashing D) (spelling : D → List ℕ) (admits : D → Type 0) (all : List D) (t u : Full D) (old new : Image) (tail : List D)
    → IsFullOf s h spelling admits all t old → IsSameTree t u → u.tree.boundary ≡ u.tree.leaves → IsOf s h all u.tree
    → tail ≡ drop (length (made s t.tree.boundary)) (nodes s h all)
    → new.log t.log.name ≡ appended (old.log t.log.name) (map spelling tail)
    → u.log.start ≡ (new.log u.log.name).start → u.log.end ≡ end_of (new.log u.log.name) → new.map t.metadata ≡ old.map t.metadata
    → IsFullOf s h spelling admits all u new
flushed_full {D = D} s h spelling admits all t u old new tail full same rests of tail_is grown start end maps =
    let name : u.log.name ≡ t.log.name = ap (λ v. v.name) same.log in
    let e = length (made s t.tree.boundary) in
    let joined : take e (nodes s h all) ++ tail ≡ nodes s h all = ap (λ (l : List D). take e (nodes s h all) ++ l) tail_is ∙ take-append-drop e (nodes s h all) in
    let count : u.tree.leaves ≡ length all = of.count in
    let whole : take (length (made s u.tree.boundary)) (nodes s h all) ≡ nodes s h all =
    take_all (length (made s u.tree.boundary)) (nodes s h all) (omega (arith, length-nodes s h all, ap (λ n. length (made s n)) (rests ∙ count))) in
    let run : Spells spelling (take e (nodes s h all) ++ tail) (appended (old.log t.log.name) (map spelling tail)) = spells_appended spelling (take e (nodes s h all)) tail (old.log t.log.name) full.nodes in
    let run_all : Spells spelling (nodes s h all) (new.log t.log.name) = subst (λ (l : Log). Spells spelling (nodes s h all) l) (sym grown) (subst (λ (l : List D). Spells spelling l (appended (old.log t.log.name) (map spelling tail))) joined run) in
    let start_same : (new.log u.log.name).start ≡ (old.log t.log.name).start = ap (λ (n : List ℕ). (new.log n).start) name ∙ ap (λ (l : Log). l.start) grown in
    record {
      digests = full.digests;
      tree = of;
      start_is = start;
      end_is = end;
      nodes = subst (λ (n : List ℕ). Spells spelling (take (length (made s u.tree.boundary)) (nodes s h all)) (new.log n)) (sym name) (subst (λ (l : List D). Spells spelling l (new.log t.log.name)) (sym whole) run_all);
      low = omega (arith, start, start_same, full.start_is, full.low, ap (λ n. length (made s n)) same.boundary);
      pins = subst (λ (n : List ℕ). IsMapOf s h spelling all u.boundary (new.map n)) (sym same.metadata) (subst (λ (m : Map). IsMapOf s h spelling all u.boundary m) (sym maps) (subst (λ (b : ℕ). IsMapOf s h spelling all b (old.map t.metadata)) (sym same.boundary) full.pins));
    }

-- ---- memory at rest

or_second : (a b : Bool) → b ≡ true → (a || b) ≡ true
or_second true b e = refl
or_second false b e = e

pub rested_exact : {D : Type 0} (s : Shape) (b : ℕ) (t u : Tree D) → IsLawful s → KeepsPeaks s → IsSound s t → b ≤ t.boundary
    → ((p : ℕ) → p < length (made s t.boundary) → is_some (node_at t p) ≡ rests s t.boundary b p) → IsRested s b t u
    → (p : ℕ) → is_some (node_at u p) ≡ rests s t.leaves b p
rested_exact {D = D} s b t u w q sound low exact rested p = ap is_some (rested.nodes p) ∙ by (rests s t.leaves b p) refl
  where
    has : rests s t.leaves b p ≡ true → is_some (node_at t p) ≡ true
    has r = elim (or_splits (is_peak_at s t.leaves (s.heights t.leaves) p) (is_peak_at s b (s.heights b) p) r) [
      | inl leaf ↦
          let found = peak_from s t.leaves (s.heights t.leaves) p leaf in
          let there = pruned_peak s t.leaves t.boundary t.leaves (node_at t) found.0 found.1 w q sound.held sound.within (omega arith) found.2 in
          ap (λ r. is_some (node_at t r)) (sym found.3) ∙ there
      | inr pin ↦
          let found = peak_from s b (s.heights b) p pin in
          let stands = peak_stands s (made s b) b (s.heights b) found.0 found.1 (w.peaks b) found.2 in
          let below : p < length (made s t.boundary) = omega (arith, found.3, slice_get_within (made s b) (s.position found.0 found.1) (found.0, found.1) stands, made_le s b t.boundary low) in
          exact p below ∙ or_second (is_peak_at s t.boundary (s.heights t.boundary) p) (is_peak_at s b (s.heights b) p) pin
    ]

    by : (r : Bool) → rests s t.leaves b p ≡ r → is_some (cond r (node_at t p) None) ≡ r
    by true is = has is
    by false is = refl

pub rested_rests : {D : Type 0} (s : Shape) (t u : Full D) → IsLawful s → KeepsPeaks s → IsKept s t → IsRested s t.boundary t.tree u.tree → u.boundary ≡ t.boundary → Rests s u
rested_rests s t u w q kept rested same = record {
  boundary = rested.boundary ∙ sym rested.leaves;
  exact = λ p. rested_exact s t.boundary t.tree u.tree w q kept.sound kept.low kept.exact rested p ∙ ap (λ n. rests s n t.boundary p) (sym rested.leaves) ∙ ap (λ b. rests s u.tree.leaves b p) (sym same);
}

pub rested_kept : {D : Type 0} (s : Shape) (t u : Full D) → IsLawful s → KeepsPeaks s → IsKept s t → IsRested s t.boundary t.tree u.tree → IsSound s u.tree → u.boundary ≡ t.boundary → IsKept s u
rested_kept s t u w q kept rested sound same =
    let rest = rested_rests s t u w q kept rested same in
    record {
      sound = sound;
      low = omega (arith, same, kept.low, kept.sound.within, rested.boundary);
      exact = λ p lt. rest.exact p ∙ ap (λ n. rests s n u.boundary p) (sym rest.boundary);
    }

-- ---- refusals

pub outside_append : {F T : Type 0} (r : Result T (Error F)) (e : JournalError) → IsErrAnd r (λ d. d ≡ from_journal e) → IsOfSize e → (e ≡ journal.SizeOverflow → ⊥) → IfErr r IsOutside
outside_append (Ok x) e is of never = tt
outside_append (Err d) journal.SizeOverflow is of never = absurd (never refl)
outside_append (Err d) journal.Volume is of never = subst IsOutside (sym is) tt
outside_append (Err d) journal.Memory is of never = subst IsOutside (sym is) tt
outside_append (Err d) (journal.ItemPruned p) is of never = absurd cc
outside_append (Err d) (journal.ItemOutOfRange p) is of never = absurd cc
outside_append (Err d) journal.EmptyAppend is of never = absurd cc
outside_append (Err d) (journal.Corruption p) is of never = absurd cc
outside_append (Err d) (journal.Tree cause) is of never = absurd cc

-- and on any contents
pub of_tail : {F D : Type 0} (s : Shape) (t : Full D) (first : ℕ) (e : Error F) → first ≡ t.log.end
    → (e ≡ tree.Memory) ⊎ ((p : ℕ) × (first ≤ p) × (p < length (made s t.tree.leaves)) × (node_at t.tree p ≡ None) × (e ≡ tree.MissingNode p)) → IsOfFlush s t e
of_tail s t first e from (inl is) = inl (subst IsOutside (sym is) tt)
of_tail s t first e from (inr (p, low, lt, none, is)) = inr (inl (p, omega (arith, low, from), lt, none, is))

pub of_append : {F T D : Type 0} (s : Shape) (t : Full D) (r : Result T (Error F)) (e : JournalError) → IsErrAnd r (λ d. d ≡ from_journal e) → IsOfSize e → IfErr r (IsOfFlush s t)
of_append s t (Ok x) e is of = tt
of_append s t (Err d) journal.SizeOverflow is of = inr (inr is)
of_append s t (Err d) journal.Volume is of = inl (subst IsOutside (sym is) tt)
of_append s t (Err d) journal.Memory is of = inl (subst IsOutside (sym is) tt)
of_append s t (Err d) (journal.ItemPruned p) is of = absurd cc
of_append s t (Err d) (journal.ItemOutOfRange p) is of = absurd cc
of_append s t (Err d) journal.EmptyAppend is of = absurd cc
of_append s t (Err d) (journal.Corruption p) is of = absurd cc
of_append s t (Err d) (journal.Tree cause) is of = absurd cc

-- where an append of the nodes that the log lacks leaves the end
pub seated_end : {D : Type 0} (s : Shape) (old new : Log) (spelling : D → List ℕ) (tail : List D) (boundary leaves first : ℕ) → boundary ≤ leaves → end_of old ≡ length (made s boundary) → first ≡ length (made s boundary) → length tail ≡ length (made s leaves) - first
    → new ≡ appended old (map spelling tail) → end_of new ≡ length (made s leaves)
seated_end s old new spelling tail boundary leaves first le ends from counted is =
    let low = made_le s boundary leaves le in
    omega (arith, ap end_of is, length-append old.items (map spelling tail), length-map tail spelling, counted, from, ends, low)
