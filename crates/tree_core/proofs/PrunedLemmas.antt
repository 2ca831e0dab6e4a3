-- Which nodes a pruned tree has.
use Rattle.std.proofs.Common.{◌≡◌, ℕ, ◌+◌, ◌-◌, ◌^◌, ◌≤◌, inl, inr, Bool, true, false, cond, List, [], ◌∷◌, length, Some, None, Option, refl, sym, ◌∙◌, ap, subst, arith}
use Rattle.std.specs.Prelude.{◌||◌, slice_get, IsSome, nat_le}
use Rattle.std.specs.Option.{option_map}
use Rattle.std.proofs.lemmas.Bool.Decides.{eqb_tells, leb_tells}
use Rattle.std.proofs.lemmas.Option.{slice_get_within, slice_get-map, slice_get_past, same_Some}
use Rattle.tree_shape.specs.Hashing.{Hashing}
use Rattle.tree_shape.specs.Shape.{Shape, made, Stands, PeaksStand, IsLawful}
use Rattle.tree_shape.specs.Kept.{PeakIn, PeakOf, KeepsPeaks}
use Rattle.tree_shape.specs.Slow.{node, node_of, nodes}
use Rattle.tree_core.specs.Pruned.{made_from, IsPruned, is_peak_at, keeps, pruned, Extends}
use Rattle.tree_store.specs.Stores.{IsTreeOf}
use Rattle.tree_core.proofs.Held.{get_is_some}
use Rattle.tree_shape.proofs.NeededLemmas.{leaf_position, made_le, at_hand_back}
use Rattle.tree_core.proofs.Later.{length-split}

pub peak_stands : (s : Shape) (cs : List (ℕ × ℕ)) (e : ℕ) (hs : List ℕ) (x k : ℕ) → PeaksStand s cs e hs → PeakIn e hs x k → Stands cs (s.position x k) x k
peak_stands s cs e [] x k st p = absurd p
peak_stands s cs e (c ∷ hs) x k st p = elim p [
  | inl here ↦ rw (here.0, here.1) st.1
  | inr there ↦ peak_stands s cs (e - 2 ^ c) hs x k st.2 there
]

-- each peak of m leaves, at or past the boundary, is there
pub pruned_peak : {D : Type 0} (s : Shape) (n b m : ℕ) (g : ℕ → Option D) (x k : ℕ) → IsLawful s → KeepsPeaks s → IsPruned s n b g → b ≤ m → m ≤ n → PeakOf s m x k → IsSome (g (s.position x k))
pruned_peak s n b m g x k w q i bm mn peak =
    let stands = peak_stands s (made s m) m (s.heights m) x k (w.peaks m) peak in
    let lt = slice_get_within (made s m) (s.position x k) (x, k) stands in
    let e : b + (m - b) ≡ m = omega arith in
    let P : ℕ → Type 0 = λ j. PeakOf s j x k in
    elim (at_hand_back s w q b (m - b) x k (inr (subst P (sym e) peak))) [
      | inl late ↦ i.since (s.position x k) (let l = leaf_position s w b in omega (arith, late, l)) (let l = made_le s m n mn in omega (arith, lt, l))
      | inr old ↦ i.peaks x k old
    ]

-- a node that is there is the slow node
pub tree_node : {D : Type 0} (s : Shape) (h : Hashing D) (all : List D) (n p x k : ℕ) (g : ℕ → Option D) (d : D) → IsTreeOf s h all n g → Stands (made s n) p x k → Some d ≡ g p → d ≡ node s h all x k
tree_node s h all n p x k g d t stands e =
    let slow : slice_get (nodes s h all) p ≡ Some (node s h all x k) =
    slice_get-map (node_of s h all) (made s (length all)) p ∙ ap (λ m. option_map (node_of s h all) (slice_get (made s m) p)) (sym t.count) ∙ ap (option_map (node_of s h all)) stands in
    same_Some d (node s h all x k) (sym (t.right p d (sym e)) ∙ slow)

pub peak_at_true : (s : Shape) (e : ℕ) (hs : List ℕ) (x k : ℕ) → PeakIn e hs x k → is_peak_at s e hs (s.position x k) ≡ true
peak_at_true s e [] x k p = absurd p
peak_at_true s e (c ∷ cs) x k p = elim (eqb_tells (s.position (e - 2 ^ c) c) (s.position x k)) [
  | inl t ↦ rw t.0 refl
  | inr t ↦ elim p [
    | inl here ↦ absurd (t.1 (rw (here.0, here.1) refl))
    | inr there ↦ rw t.0 (peak_at_true s (e - 2 ^ c) cs x k there)
  ]
]

or_true : (a b : Bool) → b ≡ true → (a || b) ≡ true
or_true true b e = refl
or_true false b e = e

-- a prune keeps all from the position on
pub kept_past : (s : Shape) (m p : ℕ) → length (made s m) ≤ p → keeps s m p ≡ true
kept_past s m p le = elim (leb_tells (length (made s m)) p) [
  | inl t ↦ rw t.0 refl
  | inr t ↦ absurd (omega (arith, t.1))
]

-- a pruned tree is one
pub pruned_again : {D : Type 0} (s : Shape) (n b m : ℕ) (f g : ℕ → Option D) → IsLawful s → KeepsPeaks s → IsPruned s n b f → b ≤ m → m ≤ n → ((p : ℕ) → g p ≡ pruned s m f p) → IsPruned s n m g
pruned_again {D = D} s n b m f g w q i bm mn e = record {
  ended = λ p le. e p ∙ ap (cond (keeps s m p) (f p)) refl ∙ none (keeps s m p) (f p) (i.ended p le);
  since = λ p le lt. kept p (kept_past s m p le) (i.since p (let l = made_le s b m bm in omega (arith, l)) lt);
  peaks = λ x k peak. kept (s.position x k) (or_true (nat_le (length (made s m)) (s.position x k)) (is_peak_at s m (s.heights m) (s.position x k)) (peak_at_true s m (s.heights m) x k peak)) (pruned_peak s n b m f x k w q i bm mn peak);
}
  where
    none : (c : Bool) (o : Option D) → o ≡ None → cond c o None ≡ None
    none true o z = z
    none false o z = refl

    kept : (p : ℕ) → keeps s m p ≡ true → IsSome (f p) → IsSome (g p)
    kept p t have = rw (e p, t) have

pub pruned_tree : {D : Type 0} (s : Shape) (h : Hashing D) (all : List D) (n m : ℕ) (f g : ℕ → Option D) → ((p : ℕ) → g p ≡ pruned s m f p) → IsTreeOf s h all n f → IsTreeOf s h all n g
pruned_tree {D = D} s h all n m f g e t = record {
  count = t.count;
  right = λ p d is. t.right p d (there (keeps s m p) (f p) d (sym (e p) ∙ is));
}
  where
    there : (c : Bool) (o : Option D) (d : D) → cond c o None ≡ Some d → o ≡ Some d
    there true o d is = is
    there false o d is = absurd (cc)

-- a tree with what later leaves made
pub pruned_grown : {D : Type 0} (s : Shape) (n b j : ℕ) (f g : ℕ → Option D) (more : List D) → IsLawful s → b ≤ n → IsPruned s n b f → length more ≡ length (made_from s n j) → Extends f g (length (made s n)) more → IsPruned s (n + j) b g
pruned_grown s n b j f g more w bn i l x = record {
  ended = λ p le.
      let q : length (made s n) + (p - length (made s n)) ≡ p = omega (arith, length-split s n j) in
      ap g (sym q) ∙ x.since (p - length (made s n)) ∙ slice_get_past more (p - length (made s n)) (omega (arith, l, length-split s n j));
  since = λ p le lt. elim (leb_tells (length (made s n)) p) [
    | inl t ↦
        let q : length (made s n) + (p - length (made s n)) ≡ p = omega (arith, t.1) in
        let has : g p ≡ slice_get more (p - length (made s n)) = ap g (sym q) ∙ x.since (p - length (made s n)) in
        rw has (get_is_some more (p - length (made s n)) (omega (arith, t.1, l, length-split s n j)))
    | inr t ↦ rw (x.before p t.1) (i.since p le t.1)
  ];
  peaks = λ y k peak.
      let stands = peak_stands s (made s b) b (s.heights b) y k (w.peaks b) peak in
      let lt = slice_get_within (made s b) (s.position y k) (y, k) stands in
      rw (x.before (s.position y k) (let le = made_le s b n bn in omega (arith, lt, le))) (i.peaks y k peak);
}

nothing_stands : (s : Shape) (p x k : ℕ) → Stands (made s 0) p x k → ⊥
unfolding made
nothing_stands s p x k e = cc

pub empty_pruned : {D : Type 0} (s : Shape) (g : ℕ → Option D) → IsLawful s → ((p : ℕ) → g p ≡ None) → IsPruned s 0 0 g
empty_pruned s g w e = record {
  ended = λ p le. e p;
  since = λ p le lt. absurd (omega arith);
  peaks = λ x k peak. absurd (nothing_stands s (s.position x k) x k (peak_stands s (made s 0) 0 (s.heights 0) x k (w.peaks 0) peak));
}
