-- Memory of a tree that is being opened.
use Rattle.std.proofs.Common.{◌≡◌, ⊎_elim, inl, inr, ℕ, ◌≤◌, List, [], ◌∷◌, ◌++◌, length, map, take, get_or, Some, sym, ◌∙◌, ap, subst, arith, length-append}
use Rattle.std.specs.Prelude.{◌^◌, slice_get}
use Rattle.std.specs.Option.{option_map}
use Rattle.std.proofs.lemmas.Bool.{cases_lt}
use Rattle.std.proofs.lemmas.List.{length-map}
use Rattle.std.proofs.lemmas.Option.{slice_get-map, slice_get_within, slice_get-get_or, same_Some}
use Rattle.volume_base.specs.Log.{Log, IsItemAt, end_of}
use Rattle.volume_base.specs.Volume.{State, SameContents, Map}
use Rattle.journal_base.specs.Items.{IsCorrupt}
use Rattle.journal_base.specs.View.{View, IsWithin}
use Rattle.tree_store.specs.Stores.{IsOutside}
use Rattle.tree_store.specs.declared.error.Error.{Error}
use Rattle.tree_store.specs.declared.error.Error.TheVariants.{LocationOverflow, RangeOutOfBounds, LeafOutOfBounds, Empty, ElementPruned, DuplicateLocation, UnsortedLocation, MissingNode, InvalidPinnedNodes, StaleBatch, AncestorDropped, DataCorrupted, Journal, Volume, Memory}
use Rattle.tree_core.specs.Tree.{NotBuilt}
use Rattle.merkle_full.specs.Recovering.{source_of, IsRecovered, NotRecovered, AllRecovered, NotAllRecovered}
use Rattle.tree_shape.specs.Hashing.{Hashing}
use Rattle.tree_shape.specs.Shape.{Shape, made, peaks, IsLawful}
use Rattle.tree_shape.specs.Pins.{pins, position_of}
use Rattle.tree_shape.specs.Places.{get-append}
use Rattle.tree_shape.specs.Slow.{nodes, node_of}
use Rattle.tree_core.proofs.PrunedLemmas.{peak_stands}
use Rattle.tree_store.specs.Stored.{TreeStands}
use Rattle.merkle_full.proofs.FullLemmas.{length-nodes}
use Rattle.merkle_full.proofs.ListLemmas.{same_lists}
use Rattle.tree_verification.proofs.NodeLemmas.{stands-later, node-take}
use Rattle.merkle_full.proofs.OpeningLemmas.{fewer}
use Rattle.merkle_full.proofs.PeakLemmas.{peak_of_pin, last_at}

pub same_size : (s : Shape) (m n : ℕ) → length (made s m) ≡ length (made s n) → m ≡ n
same_size s m n e = omega (arith, fewer s m n (omega (arith, e)), fewer s n m (omega (arith, e)))

-- one more digest for its position
pub more_each : {D : Type 0} (P : ℕ → D → Type 0) (positions : List ℕ) (ds more : List D) (i q : ℕ) (v : D) → length ds ≡ i → more ≡ ds ++ (v ∷ []) → slice_get positions i ≡ Some q → P q v
    → ((j p : ℕ) (d : D) → slice_get positions j ≡ Some p → slice_get ds j ≡ Some d → P p d) → (j p : ℕ) (d : D) → slice_get positions j ≡ Some p → slice_get more j ≡ Some d → P p d
more_each {D = D} P positions ds more i q v long is at_q at_v each j p d at_p at_d = ⊎_elim
    (λ lt.
    let here : slice_get ds j ≡ Some (get_or ds j d) = slice_get-get_or ds j d (omega (arith, lt, long)) in
    let same : Some (get_or ds j d) ≡ Some d = sym (get-append ds (v ∷ []) j (get_or ds j d) here) ∙ ap (λ l. slice_get l j) (sym is) ∙ at_d in
    each j p d at_p (here ∙ same))
    (λ le.
    let within = slice_get_within more j d at_d in
    let last : j ≡ length ds = omega (arith, within, le, long, ap length is, length-append ds (v ∷ [])) in
    let value : Some v ≡ Some d = sym (last_at ds v) ∙ ap (slice_get (ds ++ (v ∷ []))) (sym last) ∙ ap (λ l. slice_get l j) (sym is) ∙ at_d in
    let place : q ≡ p = same_Some q p (sym at_q ∙ ap (slice_get positions) (let e : i ≡ j = omega (arith, last, long) in e) ∙ at_p) in
    subst (λ r. P r d) place (subst (P q) (same_Some v d value) at_v))
    (cases_lt j i)

pub peaks_are : {D : Type 0} (s : Shape) (h : Hashing D) (all ds : List D) (positions : List ℕ) (n m : ℕ) → IsLawful s → n ≤ m → m ≤ length all → positions ≡ pins s n → length ds ≡ length positions
    → ((i p : ℕ) (d : D) → slice_get positions i ≡ Some p → slice_get ds i ≡ Some d → slice_get (nodes s h all) p ≡ Some d) → ds ≡ map (node_of s h (take m all)) (peaks s n)
peaks_are {D = D} s h all ds positions n m w le within are counted each = same_lists ds (map (node_of s h (take m all)) (peaks s n)) long at
  where
    long : length ds ≡ length (map (node_of s h (take m all)) (peaks s n))
    long = omega (arith, counted, ap length are, length-map (peaks s n) (position_of s), length-map (peaks s n) (node_of s h (take m all)))

    at : (i : ℕ) (d : D) → slice_get ds i ≡ Some d → slice_get (map (node_of s h (take m all)) (peaks s n)) i ≡ Some d
    at i d is =
        let p = get_or positions i 0 in
        let here : slice_get positions i ≡ Some p = slice_get-get_or positions i 0 (omega (arith, slice_get_within ds i d is, counted)) in
        let peak = peak_of_pin s n i p (ap (λ l. slice_get l i) (sym are) ∙ here) in
        let c : ℕ × ℕ = (peak.start, peak.height) in
        let stood = peak_stands s (made s n) n (s.heights n) peak.start peak.height (w.peaks n) peak.peak in
        let stands = stands-later s n (length all) (s.position peak.start peak.height) peak.start peak.height (omega (arith, le, within)) stood in
        let slow : slice_get (nodes s h all) p ≡ Some (node_of s h all c) = ap (slice_get (nodes s h all)) peak.position ∙ slice_get-map (node_of s h all) (made s (length all)) (s.position peak.start peak.height) ∙ ap (option_map (node_of s h all)) stands in
        let under = (w.well_made n).within (s.position peak.start peak.height) peak.start peak.height stood in
        let front : node_of s h (take m all) c ≡ node_of s h all c = node-take s h all m peak.start peak.height (omega (arith, under, le)) in
        slice_get-map (node_of s h (take m all)) (peaks s n) i ∙ ap (option_map (node_of s h (take m all))) peak.place ∙ ap Some front ∙ sym slow ∙ each i p d here is

pub stands_long : {D : Type 0} (s : Shape) (h : Hashing D) (spelling : D → List ℕ) (all : List D) (durable top n : ℕ) (log : Log) (m : Map) → TreeStands s h spelling all durable top log m → length (made s n) ≤ end_of log → n ≤ length all
stands_long s h spelling all durable top n log m stands le = fewer s n (length all) (omega (arith, le, stands.nodes.within, length-map (nodes s h all) spelling, length-nodes s h all))

-- ---- why it isn't made

-- the peaks of so many leaves, and no node behind them, make memory
pub built_outside : {F : Type 0} (s : Shape) (b pinned : ℕ) (e : Error F) → b ≤ 2 ^ 62 → pinned ≡ length (s.heights b) → NotBuilt s b 0 pinned e → IsOutside e
built_outside s b pinned Memory few counted why = tt
built_outside s b pinned Volume few counted why = tt
built_outside s b pinned (LocationOverflow l) few counted why = absurd (omega (arith, few, why.1))
built_outside s b pinned InvalidPinnedNodes few counted why = absurd (why.1 counted)
built_outside s b pinned (MissingNode p) few counted why = absurd (why.3 b (few, omega arith))
built_outside s b pinned (RangeOutOfBounds l) few counted why = why
built_outside s b pinned (LeafOutOfBounds l) few counted why = why
built_outside s b pinned Empty few counted why = why
built_outside s b pinned (ElementPruned p) few counted why = why
built_outside s b pinned (DuplicateLocation l) few counted why = why
built_outside s b pinned (UnsortedLocation l) few counted why = why
built_outside s b pinned StaleBatch few counted why = why
built_outside s b pinned (AncestorDropped x y) few counted why = why
built_outside s b pinned (DataCorrupted d) few counted why = why
built_outside s b pinned (Journal j) few counted why = why

-- ---- what is read while it is made is what was there

module _ {D C : Type 0} (tells : Type 0) (spelling : D → List ℕ) (admits : C → D → Type 0) (pinned : Map) (view : View C) (old new : State) (same : tells → SameContents old new) where
  within_now : tells → IsWithin view old → IsWithin view new
  within_now told within =
      let log = (same told).logs view.name in
      record { start_is = within.start_is ∙ ap (λ (l : Log). l.start) (sym log); low = within.low; high = omega (arith, within.high, ap end_of log) }

  pub recovered_before : (p : ℕ) (d : D) → IsRecovered tells (source_of spelling admits pinned view new) p d → IsRecovered (tells × IsWithin view old) (source_of spelling admits pinned view old) p d
  recovered_before p d r = record { allowed = r.allowed; pinned = r.pinned; logged = λ none known. subst (λ (l : Log). IsItemAt l p (spelling d)) ((same known.0).logs view.name) (r.logged none known.0) }

  pub known_before : (p : ℕ) (d : D) → IsRecovered (tells × IsWithin view new) (source_of spelling admits pinned view new) p d → IsRecovered (tells × IsWithin view old) (source_of spelling admits pinned view old) p d
  known_before p d r = record { allowed = r.allowed; pinned = r.pinned; logged = λ none known. subst (λ (l : Log). IsItemAt l p (spelling d)) ((same known.0).logs view.name) (r.logged none (known.0, within_now known.0 known.1)) }

  pub all_before : (ps : List ℕ) → AllRecovered (tells × IsWithin view new) (source_of spelling admits pinned view new) ps → AllRecovered (tells × IsWithin view old) (source_of spelling admits pinned view old) ps
  all_before ps all i p at = let r = all i p at in (r.0, known_before p r.0 r.1)

  pub lost_before : {F : Type 0} (p : ℕ) (e : Error F) → NotRecovered (tells × IsWithin view new) (source_of spelling admits pinned view new) p e → NotRecovered (tells × IsWithin view old) (source_of spelling admits pinned view old) p e
  lost_before p e (inl out) = inl out
  lost_before p e (inr (inl (is, bad))) = inr (inl (is, record { some = bad.some; unspelled = bad.unspelled }))
  lost_before p e (inr (inr (none, inl (is, f)))) = inr (inr (none, inl (is, λ known. f (known.0, within_now known.0 known.1))))
  lost_before p e (inr (inr (none, inr (is, f)))) =
      inr (inr (none, inr (is, λ known. subst (λ (l : Log). IsCorrupt (record { log = l; spelling = spelling; admits = admits view.codec }) p) ((same known.0).logs view.name) (f (known.0, within_now known.0 known.1)))))

  pub first_before : {F : Type 0} (ps : List ℕ) (e : Error F) → NotAllRecovered (tells × IsWithin view new) (source_of spelling admits pinned view new) ps e → NotAllRecovered (tells × IsWithin view old) (source_of spelling admits pinned view old) ps e
  first_before ps e (inl out) = inl out
  first_before ps e (inr lost) = inr (record {
    index = lost.index;
    position = lost.position;
    here = lost.here;
    before = λ i p lt at. let r = lost.before i p lt at in (r.0, known_before p r.0 r.1);
    why = lost_before lost.position e lost.why;
  })
