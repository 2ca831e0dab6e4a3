-- The peaks of a number of leaves as a list, and what is told at their positions.
use Rattle.std.proofs.Common.{◌≡◌, inl, inr, ℕ, zero, suc, ◌-◌, ◌<◌, ◌≤◌, Bool, true, false, List, [], ◌∷◌, ◌++◌, length, map, Some, Option, refl, sym, ◌∙◌, ap, arith}
use Rattle.std.specs.Prelude.{◌^◌, ◌||◌, nat_le, slice_get, reverse}
use Rattle.std.specs.Option.{option_map}
use Rattle.std.proofs.lemmas.Bool.Decides.{eqb_tells}
use Rattle.std.proofs.lemmas.List.{reverse-append, length-map, length-reverse}
use Rattle.std.proofs.lemmas.Option.{slice_get-map, slice_get_within, same_Some}
use Rattle.tree_shape.specs.Hashing.{Hashing}
use Rattle.tree_shape.specs.Shape.{Shape, made, peaks, peaks_down, IsLawful}
use Rattle.tree_shape.specs.Kept.{PeakIn, PeakOf, KeepsPeaks}
use Rattle.tree_shape.specs.Pins.{pins, position_of}
use Rattle.tree_shape.specs.Places.{get-append}
use Rattle.tree_shape.specs.Slow.{nodes, node_of}
use Rattle.tree_store.specs.Stores.{IsTreeOf}
use Rattle.tree_core.specs.Pruned.{is_peak_at, keeps}
use Rattle.tree_core.proofs.PrunedLemmas.{peak_stands, kept_past, peak_at_true}
use Rattle.tree_shape.proofs.NeededLemmas.{needed_from}
use Rattle.tree_shape.proofs.PinLemmas.{length-peaks_down}
use Rattle.tree_verification.proofs.NodeLemmas.{stands-later}
use Rattle.merkle_full.proofs.ListLemmas.{same_lists, mapped_some}

-- where a peak is said to stand, one stands
pub peak_from : (s : Shape) (e : ℕ) (hs : List ℕ) (p : ℕ) → is_peak_at s e hs p ≡ true → (x k : ℕ) × PeakIn e hs x k × (s.position x k ≡ p)
peak_from s e [] p t = absurd (cc)
peak_from s e (k ∷ ks) p t = elim (eqb_tells (s.position (e - 2 ^ k) k) p) [
  | inl hit ↦ (e - 2 ^ k, k, inl (refl, refl), hit.1)
  | inr miss ↦
      let rest : is_peak_at s (e - 2 ^ k) ks p ≡ true = rw miss.0 at t in
      let found = peak_from s (e - 2 ^ k) ks p rest in
      (found.0, found.1, inr found.2, found.3)
]

pub last_at : {X : Type 0} (zs : List X) (y : X) → slice_get (zs ++ (y ∷ [])) (length zs) ≡ Some y
last_at [] y = refl
last_at (z ∷ zs) y = last_at zs y

first_goes : {X : Type 0} (y : X) (ys : List X) → reverse (y ∷ ys) ≡ reverse ys ++ (y ∷ [])
first_goes y ys = reverse-append (y ∷ []) ys

pub in_reverse : {X : Type 0} (xs : List X) (i : ℕ) (x : X) → slice_get xs i ≡ Some x → (j : ℕ) × (slice_get (reverse xs) j ≡ Some x)
in_reverse [] i x is = absurd cc
in_reverse (y ∷ ys) zero x is = (length (reverse ys), ap (λ l. slice_get l (length (reverse ys))) (first_goes y ys) ∙ last_at (reverse ys) y ∙ is)
in_reverse (y ∷ ys) (suc i) x is = let r = in_reverse ys i x is in (r.0, ap (λ l. slice_get l r.0) (first_goes y ys) ∙ get-append (reverse ys) (y ∷ []) r.0 x r.1)

back_again : {X : Type 0} (xs : List X) → reverse (reverse xs) ≡ xs
back_again [] = refl
back_again (x ∷ xs) = ap reverse (first_goes x xs) ∙ reverse-append (reverse xs) (x ∷ []) ∙ ap (λ l. x ∷ l) (back_again xs)

pub from_reverse : {X : Type 0} (xs : List X) (j : ℕ) (x : X) → slice_get (reverse xs) j ≡ Some x → (i : ℕ) × (slice_get xs i ≡ Some x)
from_reverse xs j x is = let r = in_reverse (reverse xs) j x is in (r.0, ap (λ l. slice_get l r.0) (sym (back_again xs)) ∙ r.1)

peak_index : (e : ℕ) (hs : List ℕ) (x k : ℕ) → PeakIn e hs x k → (i : ℕ) × (slice_get (peaks_down e hs) i ≡ Some (x, k))
peak_index e [] x k p = absurd p
peak_index e (c ∷ cs) x k p = elim p [
  | inl here ↦ (0, rw (here.0, here.1) refl)
  | inr there ↦ let r = peak_index (e - 2 ^ c) cs x k there in (suc r.0, r.1)
]

index_peak : (e : ℕ) (hs : List ℕ) (i x k : ℕ) → slice_get (peaks_down e hs) i ≡ Some (x, k) → PeakIn e hs x k
index_peak e [] i x k is = absurd cc
index_peak e (c ∷ cs) zero x k is = let same : (e - 2 ^ c, c) ≡ (x, k) = same_Some (e - 2 ^ c, c) (x, k) is in inl (sym (ap (λ (q : ℕ × ℕ). q.0) same), sym (ap (λ (q : ℕ × ℕ). q.1) same))
index_peak e (c ∷ cs) (suc i) x k is = inr (index_peak (e - 2 ^ c) cs i x k is)

-- each peak's position is one of the pins
pub pin_of_peak : (s : Shape) (n x k : ℕ) → PeakOf s n x k → (i : ℕ) × (slice_get (pins s n) i ≡ Some (s.position x k))
pin_of_peak s n x k peak =
    let down = peak_index n (s.heights n) x k peak in
    let up = in_reverse (peaks_down n (s.heights n)) down.0 (x, k) down.1 in
    (up.0, slice_get-map (position_of s) (peaks s n) up.0 ∙ ap (option_map (position_of s)) up.1)

-- a pin is a peak at its position, and what stands at its place in another list over the peaks is that peak's
pub record IsPeakAt (s : Shape) (n i p : ℕ) : Type 0 where
  pub start : ℕ
  pub height : ℕ
  pub peak : PeakOf s n start height
  pub place : slice_get (peaks s n) i ≡ Some (start, height)
  pub position : p ≡ s.position start height

pub peak_of_pin : (s : Shape) (n i p : ℕ) → slice_get (pins s n) i ≡ Some p → IsPeakAt s n i p
peak_of_pin s n i p is =
    let m = mapped_some (position_of s) (slice_get (peaks s n) i) p (sym (slice_get-map (position_of s) (peaks s n) i) ∙ is) in
    let down = from_reverse (peaks_down n (s.heights n)) i m.0 m.1 in
    record { start = m.0.0; height = m.0.1; peak = index_peak n (s.heights n) down.0 m.0.0 m.0.1 down.1; place = m.1; position = m.2 }

pub pin_below : (s : Shape) (n i p : ℕ) → IsLawful s → slice_get (pins s n) i ≡ Some p → p < length (made s n)
pin_below s n i p w is =
    let at = peak_of_pin s n i p is in
    let stands = peak_stands s (made s n) n (s.heights n) at.start at.height (w.peaks n) at.peak in
    omega (arith, at.position, slice_get_within (made s n) (s.position at.start at.height) (at.start, at.height) stands)

-- what is told at the pins of a tree's list are its peaks
pub peaks_told : {D : Type 0} (s : Shape) (h : Hashing D) (all : List D) (m : ℕ) (told : ℕ → Option D) (n : ℕ) → IsLawful s → n ≤ length all → IsTreeOf s h all m told → (ds : List D) → map (λ (d : D). Some d) ds ≡ map told (pins s n) → ds ≡ map (node_of s h all) (peaks s n)
peaks_told {D = D} s h all m told n w le t ds e = same_lists ds (map (node_of s h all) (peaks s n)) long each
  where
    long : length ds ≡ length (map (node_of s h all) (peaks s n))
    long = omega (arith, length-map ds (λ (d : D). Some d), ap length e, length-map (pins s n) told, length-map (peaks s n) (position_of s), length-map (peaks s n) (node_of s h all))

    each : (i : ℕ) (d : D) → slice_get ds i ≡ Some d → slice_get (map (node_of s h all) (peaks s n)) i ≡ Some d
    each i d at =
        let some : slice_get (map told (pins s n)) i ≡ Some (Some d) = ap (λ l. slice_get l i) (sym e) ∙ slice_get-map (λ (x : D). Some x) ds i ∙ ap (option_map (λ (x : D). Some x)) at in
        let p = mapped_some told (slice_get (pins s n) i) (Some d) (sym (slice_get-map told (pins s n) i) ∙ some) in
        let peak = peak_of_pin s n i p.0 p.1 in
        let stands = stands-later s n (length all) (s.position peak.start peak.height) peak.start peak.height le (peak_stands s (made s n) n (s.heights n) peak.start peak.height (w.peaks n) peak.peak) in
        let slow : slice_get (nodes s h all) p.0 ≡ Some (node_of s h all (peak.start, peak.height)) = ap (slice_get (nodes s h all)) peak.position ∙ slice_get-map (node_of s h all) (made s (length all)) (s.position peak.start peak.height) ∙ ap (option_map (node_of s h all)) stands in
        slice_get-map (node_of s h all) (peaks s n) i ∙ ap (option_map (node_of s h all)) peak.place ∙ sym slow ∙ t.right p.0 d (sym p.2)

-- there are as many as heights
pub pin_count : (s : Shape) (n : ℕ) → length (pins s n) ≡ length (s.heights n)
pin_count s n = length-map (peaks s n) (position_of s) ∙ length-reverse (peaks_down n (s.heights n)) ∙ length-peaks_down n (s.heights n)

-- a peak of some leaves is kept by each boundary that is no greater
pub pin_kept : (s : Shape) (b n i p : ℕ) → IsLawful s → KeepsPeaks s → b ≤ n → slice_get (pins s n) i ≡ Some p → keeps s b p ≡ true
pin_kept s b n i p w q le is =
    let at = peak_of_pin s n i p is in
    elim (needed_from s w q n b at.start at.height le (inl at.peak)) [
      | inl late ↦ kept_past s b p (omega (arith, late, at.position))
      | inr peak ↦ or_second (nat_le (length (made s b)) p) (is_peak_at s b (s.heights b) p) (ap (is_peak_at s b (s.heights b)) at.position ∙ peak_at_true s b (s.heights b) at.start at.height peak)
    ]
  where
    or_second : (x y : Bool) → y ≡ true → (x || y) ≡ true
    or_second true y e = refl
    or_second false y e = e
