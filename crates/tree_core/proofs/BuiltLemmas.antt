-- A tree built from the peaks of its boundary and the nodes from there on.
use Rattle.std.proofs.Common.{◌≡◌, ℕ, zero, suc, ◌+◌, ◌-◌, ◌^◌, ◌<◌, ◌≤◌, inl, inr, Bool, true, false, List, [], ◌∷◌, ◌++◌, length, map, get_or, Some, None, Option, refl, sym, ◌∙◌, ap, subst, arith}
use Rattle.std.specs.Prelude.{◌||◌, slice_get, IsSome, nat_le}
use Rattle.std.proofs.lemmas.Bool.Decides.{eqb_tells, leb_tells}
use Rattle.std.proofs.lemmas.List.{map-append, length-map}
use Rattle.std.proofs.lemmas.Option.{slice_get_within, slice_get_past, same_Some}
use Rattle.tree_shape.specs.Hashing.{Hashing}
use Rattle.tree_shape.specs.Shape.{Shape, made, peaks, Stands, IsLawful}
use Rattle.tree_shape.specs.Kept.{PeakIn, PeakOf}
use Rattle.tree_shape.specs.Sizes.{HasSize}
use Rattle.tree_shape.specs.Pins.{base}
use Rattle.tree_shape.specs.Places.{get-append}
use Rattle.tree_shape.specs.Slow.{node, node_of, nodes}
use Rattle.tree_shape.proofs.SizeLemmas.{size_rise}
use Rattle.tree_core.specs.Pruned.{made_from, nodes_from, is_peak_at, keeps, IsPruned, Extends}
use Rattle.tree_core.specs.Reading.{ArePeaks}
use Rattle.tree_core.specs.Tree.{Tree, node_at, IsBuilt, IsOf}
use Rattle.tree_core.proofs.Held.{get_is_some}
use Rattle.tree_core.proofs.Later.{made-split, get_past}
use Rattle.tree_core.proofs.PrunedLemmas.{peak_stands}
use Rattle.tree_core.proofs.TreeLemmas.{are_peaks}

-- a peak has a place among the heights
pub record PlaceOf (e : ℕ) (hs : List ℕ) (x k : ℕ) : Type 0 where
  pub place : ℕ
  pub within : place < length hs
  pub first : x ≡ base e hs (suc place)
  pub height : k ≡ get_or hs place 0

pub peak_place : (e : ℕ) (hs : List ℕ) (x k : ℕ) → PeakIn e hs x k → PlaceOf e hs x k
peak_place e [] x k p = absurd p
peak_place e (c ∷ cs) x k p = elim p [
  | inl here ↦ record { place = 0; within = omega arith; first = here.0; height = here.1 }
  | inr there ↦ let r = peak_place (e - 2 ^ c) cs x k there in record { place = suc r.place; within = (let w = r.within in omega arith); first = r.first; height = r.height }
]

-- what is told of a peak is one of its digests
pub record ToldOf {D : Type 0} (t : ℕ → ℕ → Option D) (ds : List D) (x k : ℕ) : Type 0 where
  pub place : ℕ
  pub told : (d : D) → t x k ≡ Some (get_or ds place d)

-- wherever digests are told of the peaks, this one is at the same place
pub told_at : {D : Type 0} (s : Shape) (n : ℕ) (t : ℕ → ℕ → Option D) (ds : List D) (x k : ℕ) → ArePeaks s n t ds → (p : PlaceOf n (s.heights n) x k) → (d : D) → t x k ≡ Some (get_or ds (length (s.heights n) - 1 - p.place) d)
told_at s n t ds x k a p d =
    let hs = s.heights n in
    let w = p.within in
    let j : length hs - 1 - p.place < length hs = omega arith in
    let up : length hs - (length hs - 1 - p.place) ≡ suc p.place = omega arith in
    let at : length hs - 1 - (length hs - 1 - p.place) ≡ p.place = omega arith in
    rw (p.first, p.height) (rw (up, at) at (a.told (length hs - 1 - p.place) d j))

is_some_of : {D : Type 0} (o : Option D) (d : D) → o ≡ Some d → IsSome o
is_some_of o d e = subst (λ (p : Option _). IsSome p) (sym e) refl

first_digest : {D : Type 0} (ds : List D) → 0 < length ds → D
first_digest [] lt = absurd (omega arith)
first_digest (d ∷ ds) lt = d

peak_below : (s : Shape) (b x k : ℕ) → IsLawful s → PeakOf s b x k → s.position x k < length (made s b)
peak_below s b x k w peak = slice_get_within (made s b) (s.position x k) (x, k) (peak_stands s (made s b) b (s.heights b) x k (w.peaks b) peak)

-- the peaks and what stands behind them make a pruned tree
pub built_pruned : {D : Type 0} (s : Shape) (n b : ℕ) (f g : ℕ → Option D) (more pinned : List D) → IsLawful s → length (made s n) ≡ length (made s b) + length more
    → ArePeaks s b (λ x k. f (s.position x k)) pinned → Extends f g (length (made s b)) more → IsPruned s n b g
built_pruned s n b f g more pinned w size pins x = record {
  ended = λ p le.
      let q : length (made s b) + (p - length (made s b)) ≡ p = omega arith in
      ap g (sym q) ∙ x.since (p - length (made s b)) ∙ slice_get_past more (p - length (made s b)) (omega arith);
  since = λ p le lt.
      let q : length (made s b) + (p - length (made s b)) ≡ p = omega arith in
      let has : g p ≡ slice_get more (p - length (made s b)) = ap g (sym q) ∙ x.since (p - length (made s b)) in
      rw has (get_is_some more (p - length (made s b)) (omega arith));
  peaks = λ y k peak.
      let place = peak_place b (s.heights b) y k peak in
      let some = first_digest pinned (let c = pins.counted in let w = place.within in omega arith) in
      is_some_of (g (s.position y k)) _ (x.before (s.position y k) (peak_below s b y k w peak) ∙ told_at s b (λ v j. f (s.position v j)) pinned y k pins place some);
}

or_false : (a b : Bool) → (a || b) ≡ false → (a ≡ false) × (b ≡ false)
or_false true b e = absurd (cc)
or_false false b e = (refl, e)

not_past : (m p : ℕ) → nat_le m p ≡ false → p < m
not_past m p e = elim (leb_tells m p) [
  | inl t ↦ absurd (let r = t.0 in cc)
  | inr t ↦ omega (arith, t.1)
]

pub sizes_apart : (s : Shape) (n b more : ℕ) → length (made s n) ≡ length (made s b) + more → b ≤ n
sizes_apart s n b more e = elim (eqb_tells (b - n) 0) [
  | inl t ↦ omega (arith, t.1)
  | inr t ↦ let lt : n < b = omega (arith, t.1) in let rise = size_rise s n b lt in absurd (omega arith)
]

pub is_built : {D : Type 0} (s : Shape) (b : ℕ) (f : ℕ → Option D) (t : Tree D) (more pinned : List D) → IsLawful s → HasSize s t.leaves (length (made s b) + length more) → t.boundary ≡ b
    → ArePeaks s b (λ x k. f (s.position x k)) pinned → ((p : ℕ) → is_peak_at s b (s.heights b) p ≡ false → f p ≡ None) → Extends f (node_at t) (length (made s b)) more → IsBuilt s b more pinned t
is_built s b f t more pinned w size at pins others x = record {
  leaves = size;
  within = sizes_apart s t.leaves b (length more) size.1;
  boundary = at;
  nodes = x.since;
  pins = record {
    counted = pins.counted;
    told = λ j d lt.
        let place : PlaceOf b (s.heights b) (base b (s.heights b) (length (s.heights b) - j)) (get_or (s.heights b) (length (s.heights b) - 1 - j) 0) = record {
          place = length (s.heights b) - 1 - j;
          within = omega arith;
          first = (let e : length (s.heights b) - j ≡ suc (length (s.heights b) - 1 - j) = omega arith in ap (base b (s.heights b)) e);
          height = refl;
        } in
        x.before _ (peak_below s b _ _ w (peak_here b (s.heights b) _ _ place)) ∙ pins.told j d lt;
  };
  others = λ p e. let parts = or_false (nat_le (length (made s b)) p) (is_peak_at s b (s.heights b) p) e in x.before p (not_past (length (made s b)) p parts.0) ∙ others p parts.1;
}
  where
    peak_here : (e : ℕ) (hs : List ℕ) (y k : ℕ) → PlaceOf e hs y k → PeakIn e hs y k
    peak_here e hs y k p = go e hs y k p.place p.within p.first p.height
      where
        go : (e : ℕ) (hs : List ℕ) (y k i : ℕ) → i < length hs → y ≡ base e hs (suc i) → k ≡ get_or hs i 0 → PeakIn e hs y k
        go e [] y k i lt ey ek = absurd (omega arith)
        go e (c ∷ cs) y k zero lt ey ek = inl (ey, ek)
        go e (c ∷ cs) y k (suc i) lt ey ek = inr (go (e - 2 ^ c) cs y k i (omega arith) ey ek)

-- the peak that stands here
pub record PeakAt (s : Shape) (e : ℕ) (hs : List ℕ) (p : ℕ) : Type 0 where
  pub first : ℕ
  pub height : ℕ
  pub peak : PeakIn e hs first height
  pub at : s.position first height ≡ p

pub peak_at_from : (s : Shape) (e : ℕ) (hs : List ℕ) (p : ℕ) → is_peak_at s e hs p ≡ true → PeakAt s e hs p
peak_at_from s e [] p t = absurd (cc)
peak_at_from s e (k ∷ ks) p t = elim (eqb_tells (s.position (e - 2 ^ k) k) p) [
  | inl same ↦ record { first = e - 2 ^ k; height = k; peak = inl (refl, refl); at = same.1 }
  | inr apart ↦
      let rest : is_peak_at s (e - 2 ^ k) ks p ≡ true = rw apart.0 at t in
      let r = peak_at_from s (e - 2 ^ k) ks p rest in record { first = r.first; height = r.height; peak = inr r.peak; at = r.at }
]

-- what is built of the slow nodes is the tree of their list
pub built_tree : {D : Type 0} (s : Shape) (h : Hashing D) (all : List D) (b : ℕ) (t : Tree D) (more pinned : List D) → IsLawful s → IsBuilt s b more pinned t → t.leaves ≡ length all
    → pinned ≡ map (node_of s h all) (peaks s b) → more ≡ nodes_from s h all b (t.leaves - b) → IsOf s h all t
built_tree {D = D} s h all b t more pinned w built count pins since = record {
  count = count;
  right = λ p d is. elim (leb_tells (length (made s b)) p) [
    | inl le ↦
        let q : length (made s b) + (p - length (made s b)) ≡ p = omega (arith, le.1) in
        let lm : length (map (node_of s h all) (made s b)) ≡ length (made s b) = length-map (made s b) (node_of s h all) in
        let r : length (map (node_of s h all) (made s b)) + (p - length (made s b)) ≡ p = omega (arith, le.1) in
        ap (λ ns. slice_get ns p) whole ∙ ap (slice_get (map (node_of s h all) (made s b) ++ nodes_from s h all b (t.leaves - b))) (sym r)
        ∙ get_past (map (node_of s h all) (made s b)) (nodes_from s h all b (t.leaves - b)) (p - length (made s b))
        ∙ ap (λ ns. slice_get ns (p - length (made s b))) (sym since) ∙ sym (built.nodes (p - length (made s b))) ∙ ap (node_at t) q ∙ is
    | inr lt ↦ below p d is (omega (arith, lt.1)) (is_peak_at s b (s.heights b) p) refl
  ];
}
  where
    whole : nodes s h all ≡ map (node_of s h all) (made s b) ++ nodes_from s h all b (t.leaves - b)
    whole =
        let e : b + (t.leaves - b) ≡ length all = (let le = built.within in omega arith) in
        ap (λ m. map (node_of s h all) (made s m)) (sym e) ∙ ap (map (node_of s h all)) (made-split s b (t.leaves - b)) ∙ map-append (node_of s h all) (made s b) (made_from s b (t.leaves - b))

    slow : (x k : ℕ) → PlaceOf b (s.heights b) x k → (d : D) → node_at t (s.position x k) ≡ Some (node s h all x k)
    slow x k p d =
        let same : ArePeaks s b (λ y j. Some (node s h all y j)) pinned = subst (λ (ds : List D). ArePeaks s b (λ y j. Some (node s h all y j)) ds) (sym pins) (are_peaks s h all b (λ y j. Some (node s h all y j)) (λ y j peak. refl)) in
        told_at s b (λ y j. node_at t (s.position y j)) pinned x k built.pins p d ∙ sym (told_at s b (λ y j. Some (node s h all y j)) pinned x k same p d)

    below : (p : ℕ) (d : D) → node_at t p ≡ Some d → p < length (made s b) → (here : Bool) → is_peak_at s b (s.heights b) p ≡ here → slice_get (nodes s h all) p ≡ Some d
    below p d is lt true e =
        let peak = peak_at_from s b (s.heights b) p e in
        let place = peak_place b (s.heights b) peak.first peak.height peak.peak in
        let stands : slice_get (made s b) p ≡ Some (peak.first, peak.height) = subst (λ (q : ℕ). slice_get (made s b) q ≡ Some (peak.first, peak.height)) peak.at (peak_stands s (made s b) b (s.heights b) peak.first peak.height (w.peaks b) peak.peak) in
        let digest : d ≡ node s h all peak.first peak.height = same_Some d (node s h all peak.first peak.height) (sym is ∙ ap (node_at t) (sym peak.at) ∙ slow peak.first peak.height place d) in
        let here : slice_get (map (node_of s h all) (made s b)) p ≡ Some (node s h all peak.first peak.height) = mapped (made s b) p peak.first peak.height stands in
        ap (λ ns. slice_get ns p) whole ∙ get-append (map (node_of s h all) (made s b)) (nodes_from s h all b (t.leaves - b)) p (node s h all peak.first peak.height) here ∙ ap Some (sym digest)
      where
        mapped : (cs : List (ℕ × ℕ)) (i x k : ℕ) → Stands cs i x k → slice_get (map (node_of s h all) cs) i ≡ Some (node s h all x k)
        mapped [] i x k st = absurd (cc)
        mapped (c ∷ cs) zero x k st = ap (λ (o : Option (ℕ × ℕ)). taken o) st
          where
            taken : Option (ℕ × ℕ) → Option D
            taken (Some v) = Some (node_of s h all v)
            taken None = None
        mapped (c ∷ cs) (suc i) x k st = mapped cs i x k st
    below p d is lt false e =
        let apart : keeps s b p ≡ false = kept_false p lt e in
        absurd (let none = built.others p apart in cc)
      where
        kept_false : (q : ℕ) → q < length (made s b) → is_peak_at s b (s.heights b) q ≡ false → keeps s b q ≡ false
        kept_false q less f = elim (leb_tells (length (made s b)) q) [
          | inl t' ↦ absurd (omega (arith, t'.1))
          | inr t' ↦ rw (t'.0, f) refl
        ]
