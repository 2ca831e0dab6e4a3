-- The peaks and the joins of a Merkle mountain range by the bits of its number of leaves.
use Rattle.std.proofs.Common.{◌≡◌, ℕ, zero, suc, ◌+◌, ◌-◌, ◌*◌, ◌/◌, ◌%◌, ◌^◌, ◌<◌, ◌≤◌, inl, inr, List, [], ◌∷◌, map, Some, None, refl, sym, ◌∙◌, ap, arith, add-one, w64}
use Rattle.std.specs.Prelude.{slice_get}
use Rattle.std.specs.Int.{bit_at, trailing_ones}
use Rattle.std.proofs.Math.Nat.{pow-suc}
use Rattle.std.proofs.lemmas.Nat.{pow_below, shr-shr}
use Rattle.std.proofs.lemmas.Bool.Decides.{eqb_tells}
use Rattle.std.proofs.lemmas.Nat.Bits.{bit_at-trailing_ones}
use Rattle.tree_shape.specs.Mmr.{joins, mmr_heights}
use Rattle.tree_shape.specs.MmrSize.{mmr_heights-double, mmr_heights-double_suc, halves}

-- each height raised by h
abbrev pub raised : ℕ → List ℕ → List ℕ
raised h [] = []
raised h (k ∷ ks) = (h + k) ∷ raised h ks

raised-map : (h : ℕ) (ks : List ℕ) → raised h (map suc ks) ≡ raised (suc h) ks
raised-map h [] = refl
raised-map h (k ∷ ks) = let e : h + suc k ≡ suc h + k = omega arith in rw (e, raised-map h ks) refl

pub raised-zero : (ks : List ℕ) → raised 0 ks ≡ ks
raised-zero [] = refl
raised-zero (k ∷ ks) = let e : 0 + k ≡ k = omega arith in rw (e, raised-zero ks) refl

pub raised-even : (h m : ℕ) → m % 2 ≡ 0 → raised h (mmr_heights m) ≡ raised (h + 1) (mmr_heights (m / 2))
raised-even h m z = elim (halves m) [
  | inl e ↦ ap (λ k. raised h (mmr_heights k)) e.0 ∙ ap (raised h) (mmr_heights-double (m / 2)) ∙ raised-map h (mmr_heights (m / 2)) ∙ ap (λ k. raised k (mmr_heights (m / 2))) (sym (add-one h))
  | inr e ↦ absurd (omega (arith, e.1))
]

pub raised-odd : (h m : ℕ) → m % 2 ≡ 1 → raised h (mmr_heights m) ≡ h ∷ raised (h + 1) (mmr_heights (m / 2))
raised-odd h m z = elim (halves m) [
  | inr e ↦ ap (λ k. raised h (mmr_heights k)) e.0 ∙ ap (raised h) (mmr_heights-double_suc (m / 2))
      ∙ (let first : h + 0 ≡ h = omega arith in rw (first, raised-map h (mmr_heights (m / 2)), add-one) refl)
  | inl e ↦ absurd (omega (arith, e.1))
]

pub raised-none : (h : ℕ) → raised h (mmr_heights 0) ≡ []
unfolding mmr_heights
raised-none h = refl

pub height_below : (h : ℕ) → 2 ^ h ≤ 2 ^ 62 → h < 63
height_below h le = elim (eqb_tells (h - 62) 0) [
  | inl e ↦ omega (arith, e.1)
  | inr e ↦ let past : 62 < h = omega (arith, e.1) in let more : 2 ^ 62 < 2 ^ h = pow_below 62 h past in absurd (omega arith)
]

-- m has t ones at its low end, and then a zero
pub EndsInOnes : ℕ → ℕ → Type 0
EndsInOnes zero m = m % 2 ≡ 0
EndsInOnes (suc t) m = (m % 2 ≡ 1) × EndsInOnes t (m / 2)

joins_stop : (e h : ℕ) (ks : List ℕ) → joins e h (raised (h + 1) ks) ≡ []
joins_stop e h [] = refl
joins_stop e h (k ∷ ks) = elim (eqb_tells h (h + 1 + k)) [
  | inl t ↦ absurd (omega (arith, t.1))
  | inr t ↦ rw t.0 refl
]

joins_more : (e h : ℕ) (ks : List ℕ) → joins e h (h ∷ ks) ≡ (e - 2 ^ suc h, suc h) ∷ joins e (suc h) ks
joins_more e h ks = elim (eqb_tells h h) [
  | inl t ↦ rw t.0 refl
  | inr t ↦ absurd (t.1 refl)
]

joins-step : (e h m : ℕ) → m % 2 ≡ 1 → joins e h (raised h (mmr_heights m)) ≡ (e - 2 ^ suc h, suc h) ∷ joins e (suc h) (raised (suc h) (mmr_heights (m / 2)))
joins-step e h m o = ap (joins e h) (raised-odd h m o) ∙ joins_more e h (raised (h + 1) (mmr_heights (m / 2))) ∙ rw add-one refl

pub joins-none : (t e h m i : ℕ) → EndsInOnes t m → t ≤ i → slice_get (joins e h (raised h (mmr_heights m))) i ≡ None
unfolding EndsInOnes
joins-none zero e h m i z le = ap (λ js. slice_get js i) (ap (joins e h) (raised-even h m z) ∙ joins_stop e h (mmr_heights (m / 2)))
joins-none (suc t) e h m zero o le = absurd (omega arith)
joins-none (suc t) e h m (suc i) o le = ap (λ js. slice_get js (suc i)) (joins-step e h m o.0) ∙ joins-none t e (suc h) (m / 2) i o.1 (omega arith)

pub joins-some : (t e h m i : ℕ) → EndsInOnes t m → i < t → slice_get (joins e h (raised h (mmr_heights m))) i ≡ Some (e - 2 ^ (h + i + 1), h + i + 1)
unfolding EndsInOnes
joins-some zero e h m i z lt = absurd (omega arith)
joins-some (suc t) e h m zero o lt =
    let k : h + 0 + 1 ≡ suc h = omega arith in
    ap (λ js. slice_get js 0) (joins-step e h m o.0) ∙ rw k refl
joins-some (suc t) e h m (suc i) o lt =
    let k : h + suc i + 1 ≡ suc h + i + 1 = omega arith in
    ap (λ js. slice_get js (suc i)) (joins-step e h m o.0) ∙ rw k (joins-some t e (suc h) (m / 2) i o.1 (omega arith))

-- its bits below t are ones, and the bit at t is a zero
ends_in_ones : (t m : ℕ) → bit_at m t ≡ 0 → ((i : ℕ) → i < t → bit_at m i ≡ 1) → EndsInOnes t m
unfolding EndsInOnes
ends_in_ones zero m z o = let e : m / 2 ^ 0 ≡ m = omega arith in rw e at z
ends_in_ones (suc t) m z o =
    let first : m / 2 ^ 0 % 2 ≡ 1 = o 0 (omega arith) in
    let whole : m / 2 ^ 0 ≡ m = omega arith in
    let later = λ (i : ℕ). let s : m / 2 ^ 1 / 2 ^ i ≡ m / 2 ^ (1 + i) = shr-shr m 1 i in let k : 1 + i ≡ suc i = omega arith in let r : m / 2 / 2 ^ i ≡ m / 2 ^ suc i = s ∙ ap (λ j. m / 2 ^ j) k in r in
    (rw whole at first, ends_in_ones t (m / 2) (ap (λ q. q % 2) (later t) ∙ z) (λ i lt. ap (λ q. q % 2) (later i) ∙ o (suc i) (omega arith)))

pub ends_in_trailing_ones : (n : ℕ) → n + 1 < 2 ^ 64 → EndsInOnes (trailing_ones w64 n) n
ends_in_trailing_ones n small = let b = bit_at-trailing_ones w64 n small in ends_in_ones (trailing_ones w64 n) n b.1 b.2

pub ones_fit : (t m i : ℕ) → EndsInOnes t m → i < t → 2 ^ (i + 1) ≤ m + 1
unfolding EndsInOnes
ones_fit zero m i z lt = absurd (omega arith)
ones_fit (suc t) m zero o lt = let f : m % 2 ≡ 1 = o.0 in omega arith
ones_fit (suc t) m (suc i) o lt =
    let f : m % 2 ≡ 1 = o.0 in
    let more : 2 ^ (i + 1) ≤ m / 2 + 1 = ones_fit t (m / 2) i o.1 (omega arith) in
    let two : 2 ^ (suc i + 1) ≡ 2 ^ (i + 1) * 2 = (let e : suc i + 1 ≡ suc (i + 1) = omega arith in rw e (pow-suc 2 (i + 1))) in
    omega arith

-- `2 << i`, where it fits
pub shifted_two : (i n : ℕ) → n < 2 ^ 62 → 2 ^ (i + 1) ≤ n + 1 → 2 * 2 ^ i % 18446744073709551616 ≡ 2 ^ (i + 1)
shifted_two i n small le =
    let two : 2 ^ (i + 1) ≡ 2 ^ i * 2 = rw add-one (pow-suc 2 i) in
    omega arith
