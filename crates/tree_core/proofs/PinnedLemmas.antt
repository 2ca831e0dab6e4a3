-- The peaks of a number of leaves, each put at its position.
use Rattle.std.proofs.Common.{◌≡◌, ℕ, zero, suc, ◌+◌, ◌-◌, ◌^◌, ◌<◌, ◌≤◌, inl, inr, List, [], ◌∷◌, ◌++◌, length, get_or, false, Some, None, refl, sym, ◌∙◌, ap, subst, arith}
use Rattle.std.specs.Prelude.{slice_get}
use Rattle.std.proofs.lemmas.Nat.{pow_pos}
use Rattle.std.proofs.lemmas.Bool.Decides.{eqb_tells}
use Rattle.std.proofs.lemmas.List.{get_or-reverse}
use Rattle.std.proofs.lemmas.Option.{some_pair_parts, slice_get_within}
use Rattle.tree_shape.specs.Shape.{Shape, made, peaks, peaks_down, PeaksStand, IsLawful}
use Rattle.tree_shape.specs.Kept.{PeakOf}
use Rattle.tree_shape.specs.Pins.{base}
use Rattle.tree_shape.proofs.PinLemmas.{base-next, length-peaks_down, peaks_down-at}
use Rattle.tree_core.specs.Pruned.{is_peak_at}
use Rattle.tree_core.specs.Reading.{ArePeaks}
use Rattle.tree_core.proofs.FoldLemmas.{in_peaks}
use Rattle.tree_core.proofs.PrunedLemmas.{peak_stands, peak_at_true}
use Rattle.tree_core.specs.KeptNodes.{entry_at, AreBefore}
use Rattle.tree_core.proofs.KeptNodesLemmas.{entry_on, entry_first, entry_second, entry_here}

-- the first leaf and the height of the j-th oldest peak
abbrev pub first_at : Shape → ℕ → ℕ → ℕ
first_at s n j = base n (s.heights n) (length (s.heights n) - j)

abbrev pub height_at : Shape → ℕ → ℕ → ℕ
height_at s n j = get_or (s.heights n) (length (s.heights n) - 1 - j) 0

pub peak_at : (s : Shape) (n j : ℕ) → j < length (s.heights n) → PeakOf s n (first_at s n j) (height_at s n j)
peak_at s n j lt =
    let up : suc (length (s.heights n) - 1 - j) ≡ length (s.heights n) - j = omega arith in
    let P : ℕ → Type 0 = λ b. PeakOf s n (base n (s.heights n) b) (height_at s n j) in
    subst P up (in_peaks n (s.heights n) (length (s.heights n) - 1 - j) (omega arith))

-- each begins where the one before ends
pub first_next : (s : Shape) (n j : ℕ) → IsLawful s → j < length (s.heights n) → first_at s n (suc j) ≡ first_at s n j + 2 ^ height_at s n j
first_next s n j w lt =
    let hs = s.heights n in
    let e : length hs - suc j ≡ length hs - 1 - j = omega arith in
    let f : suc (length hs - 1 - j) ≡ length hs - j = omega arith in
    ap (base n hs) e ∙ base-next s (made s n) n hs (length hs - 1 - j) (w.peaks n) (omega arith) ∙ ap (λ b. base n hs b + 2 ^ height_at s n j) f

first_later : (s : Shape) (n i t : ℕ) → IsLawful s → i + t < length (s.heights n) → first_at s n i ≤ first_at s n (i + t)
first_later s n i zero w lt = let e : i + 0 ≡ i = omega arith in rw e (omega arith)
first_later s n i (suc t) w lt =
    let e : i + suc t ≡ suc (i + t) = omega arith in
    let before = first_later s n i t w (omega arith) in
    let next = first_next s n (i + t) w (omega arith) in
    rw e (omega arith)

first_rises : (s : Shape) (n i j : ℕ) → IsLawful s → i < j → j < length (s.heights n) → first_at s n i < first_at s n j
first_rises s n i j w lt less =
    let e : suc i + (j - suc i) ≡ j = omega arith in
    let next = first_next s n i w (omega arith) in
    let some = pow_pos (height_at s n i) in
    let later : first_at s n (suc i) ≤ first_at s n j = rw e at (first_later s n (suc i) (j - suc i) w (omega arith)) in
    omega arith

-- two peaks stand apart
peaks_apart : (s : Shape) (n i j : ℕ) → IsLawful s → i < j → j < length (s.heights n)
    → s.position (first_at s n j) (height_at s n j) ≡ s.position (first_at s n i) (height_at s n i) → ⊥
peaks_apart s n i j w lt less same =
    let one = peak_stands s (made s n) n (s.heights n) (first_at s n i) (height_at s n i) (w.peaks n) (peak_at s n i (omega arith)) in
    let two = peak_stands s (made s n) n (s.heights n) (first_at s n j) (height_at s n j) (w.peaks n) (peak_at s n j less) in
    let parts = some_pair_parts (first_at s n j) (first_at s n i) (height_at s n j) (height_at s n i) (sym two ∙ ap (slice_get (made s n)) same ∙ one) in
    let rises = first_rises s n i j w lt less in
    absurd (omega (arith, parts.0))

-- the first j pins are at their positions, the others aren't, and nothing else is there
pub record PinnedSo {D : Type 0} (s : Shape) (n : ℕ) (es : List (ℕ × D)) (ds : List D) (j : ℕ) : Type 0 where
  pub told : (i : ℕ) (d : D) → i < j → entry_at es (s.position (first_at s n i) (height_at s n i)) ≡ Some (get_or ds i d)
  pub fresh : (i : ℕ) → j ≤ i → i < length (s.heights n) → entry_at es (s.position (first_at s n i) (height_at s n i)) ≡ None
  pub others : (p : ℕ) → is_peak_at s n (s.heights n) p ≡ false → entry_at es p ≡ None
  pub before : AreBefore (length (made s n)) es

pub none_pinned : {D : Type 0} (s : Shape) (n : ℕ) (es : List (ℕ × D)) (ds : List D) → es ≡ [] → PinnedSo s n es ds 0
none_pinned {D = D} s n es ds e = record {
  told = λ i d lt. absurd (omega arith);
  fresh = λ i le lt. ap (λ (xs : List (ℕ × D)). entry_at xs (s.position (first_at s n i) (height_at s n i))) e;
  others = λ p f. ap (λ (xs : List (ℕ × D)). entry_at xs p) e;
  before = subst (λ (xs : List (ℕ × D)). AreBefore (length (made s n)) xs) (sym e) tt;
}

both_before : {D : Type 0} (first : ℕ) (xs ys : List (ℕ × D)) → AreBefore first xs → AreBefore first ys → AreBefore first (xs ++ ys)
both_before first [] ys a b = b
both_before first (x ∷ xs) ys a b = (a.0, both_before first xs ys a.1 b)

pub pinned_step : {D : Type 0} (s : Shape) (n j : ℕ) (es fs : List (ℕ × D)) (ds : List D) (v : D) → IsLawful s → j < length (s.heights n) → ((d : D) → v ≡ get_or ds j d)
    → PinnedSo s n es ds j → fs ≡ es ++ ((s.position (first_at s n j) (height_at s n j), v) ∷ []) → PinnedSo s n fs ds (suc j)
pinned_step {D = D} s n j es fs ds v w lt is so e = record {
  told = λ i d less. elim (eqb_tells i j) [
    | inl t ↦ rw t.1 (new ∙ ap Some (is d))
    | inr t ↦ let early : i < j = omega (arith, t.1) in old (place i) (λ same. peaks_apart s n i j w early lt (sym same)) ∙ so.told i d early
  ];
  fresh = λ i le less. old (place i) (peaks_apart s n j i w (omega arith) less) ∙ so.fresh i (omega arith) less;
  others = λ p none. old p (λ same. let here = peak_at_true s n (s.heights n) (first_at s n j) (height_at s n j) (peak_at s n j lt) in absurd (let other = ap (is_peak_at s n (s.heights n)) same in cc)) ∙ so.others p none;
  before = subst (λ (xs : List (ℕ × D)). AreBefore (length (made s n)) xs) (sym e) (both_before (length (made s n)) es ((place j, v) ∷ []) so.before (below, tt));
}
  where
    place : ℕ → ℕ
    place i = s.position (first_at s n i) (height_at s n i)

    below : place j < length (made s n)
    below = slice_get_within (made s n) (place j) (first_at s n j, height_at s n j) (peak_stands s (made s n) n (s.heights n) (first_at s n j) (height_at s n j) (w.peaks n) (peak_at s n j lt))

    new : entry_at fs (place j) ≡ Some v
    new = ap (λ (xs : List (ℕ × D)). entry_at xs (place j)) e ∙ entry_second es ((place j, v) ∷ []) (place j) (so.fresh j (omega arith) lt) ∙ entry_here [] (place j, v) (place j) refl

    old : (p : ℕ) → (p ≡ place j → ⊥) → entry_at fs p ≡ entry_at es p
    old p apart = ap (λ (xs : List (ℕ × D)). entry_at xs p) e ∙ entry_first es ((place j, v) ∷ []) p (entry_on [] (place j, v) p apart)

pub all_pinned : {D : Type 0} (s : Shape) (n j : ℕ) (es : List (ℕ × D)) (ds : List D) → length ds ≡ length (s.heights n) → length (s.heights n) ≤ j → PinnedSo s n es ds j → ArePeaks s n (λ x k. entry_at es (s.position x k)) ds
all_pinned s n j es ds l le so = record { counted = l; told = λ i d lt. so.told i d (omega arith) }

-- each of these peaks stands below the size of their leaves
pub pins_below : (s : Shape) (cs : List (ℕ × ℕ)) (e : ℕ) (hs : List ℕ) (p : ℕ) → PeaksStand s cs e hs → length cs ≤ p → is_peak_at s e hs p ≡ false
pins_below s cs e [] p st le = refl
pins_below s cs e (k ∷ ks) p st le =
    let within = slice_get_within cs (s.position (e - 2 ^ k) k) (e - 2 ^ k, k) st.1 in
    elim (eqb_tells (s.position (e - 2 ^ k) k) p) [
      | inl t ↦ absurd (omega (arith, t.1, within))
      | inr t ↦ rw t.0 (pins_below s cs (e - 2 ^ k) ks p st.2 le)
    ]

-- an item of the list of peaks is the one of its place
pub peak_is : (s : Shape) (n j : ℕ) (p : ℕ × ℕ) → j < length (s.heights n) → p ≡ get_or (peaks s n) j p
    → p ≡ (first_at s n j, height_at s n j)
peak_is s n j p lt is =
    let hs = s.heights n in
    let l = length-peaks_down n hs in
    let up : suc (length hs - 1 - j) ≡ length hs - j = omega arith in
    is ∙ get_or-reverse (peaks_down n hs) j p (omega (arith, l)) ∙ ap (λ m. get_or (peaks_down n hs) (m - 1 - j) p) l
    ∙ peaks_down-at n hs (length hs - 1 - j) p (omega arith) ∙ ap (λ b. (base n hs b, height_at s n j)) up
