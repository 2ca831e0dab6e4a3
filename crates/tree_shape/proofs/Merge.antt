-- The peaks, the size and the merge of a Merkle mountain belt by bits.
use Rattle.std.proofs.Common.{◌≡◌, ℕ, zero, suc, ◌+◌, ◌-◌, ◌*◌, ◌/◌, ◌%◌, ◌^◌, ◌<◌, ◌≤◌, ◌⊎◌, inl, inr, List, [], ◌∷◌, length, map, None, refl, sym, ◌∙◌, ap, subst, arith, add-one, w64}
use Rattle.std.specs.Prelude.{slice_get}
use Rattle.std.specs.Int.{leading_zeros}
use Rattle.std.proofs.Math.Nat.{pow-suc}
use Rattle.std.proofs.lemmas.Nat.{leading_top, pow_below, one_shl}
use Rattle.std.proofs.lemmas.Bool.Decides.{eqb_tells}
use Rattle.tree_shape.specs.Mmb.{merge, mmb_heights, mmb_size, mmb_position}
use Rattle.tree_shape.specs.MmbSize.{mmb_peaks-digits}
use Rattle.tree_shape.proofs.MmbBits.{mmb_heights-odd, mmb_heights-even}
use Rattle.tree_shape.proofs.MmrBits.{raised}
use Rattle.std.specs.Int.{bit_at, trailing_ones}
use Rattle.std.proofs.lemmas.Nat.{shr-shr}
use Rattle.std.proofs.lemmas.Nat.Bits.{bit_at-trailing_ones}

order : (m n : ℕ) → (m ≤ n) ⊎ (n < m)
order m n = elim (eqb_tells (m - n) 0) [
  | inl e ↦ inl (omega (arith, e.1))
  | inr e ↦ inr (omega (arith, e.1))
]

-- a power of two below a number is no more than the one that it lies under
digits_le : (i j a : ℕ) → 2 ^ i ≤ a → a < 2 ^ suc j → i ≤ j
digits_le i j a lo hi = elim (order i j) [
  | inl le ↦ le
  | inr gt ↦ absurd (elim (order i (suc j)) [
    | inl le ↦ let e : i ≡ suc j = omega arith in let p : 2 ^ i ≡ 2 ^ suc j = ap (λ k. 2 ^ k) e in omega arith
    | inr more ↦ let p : 2 ^ suc j < 2 ^ i = pow_below (suc j) i more in omega arith
  ])
]

-- as many peaks as binary digits of n + 1 behind the first
pub peaks-leading : (n : ℕ) → n + 1 < 2 ^ 64 → 63 - leading_zeros w64 (n + 1) ≡ length (mmb_heights n)
peaks-leading n small =
    let top = leading_top 64 (n + 1) (omega arith) small in
    let d = mmb_peaks-digits n in
    let two : 2 ^ suc (length (mmb_heights n)) ≡ 2 ^ length (mmb_heights n) * 2 = pow-suc 2 (length (mmb_heights n)) in
    let a = digits_le top.0 (length (mmb_heights n)) (n + 1) top.2 (omega (arith, d.1)) in
    let b = digits_le (length (mmb_heights n)) top.0 (n + 1) d.0 top.3 in
    omega (arith, a, b, top.1)

raised-map : (h : ℕ) (ks : List ℕ) → raised h (map suc ks) ≡ raised (suc h) ks
raised-map h [] = refl
raised-map h (k ∷ ks) = let e : h + suc k ≡ suc h + k = omega arith in rw (e, raised-map h ks) refl

pub raised-odd : (h m : ℕ) → m % 2 ≡ 1 → raised h (mmb_heights m) ≡ h ∷ raised (h + 1) (mmb_heights ((m - 1) / 2))
raised-odd h m o =
    let e : m ≡ suc ((m - 1) / 2 + (m - 1) / 2) = omega arith in
    let first : h + 0 ≡ h = omega arith in
    ap (λ k. raised h (mmb_heights k)) e ∙ ap (raised h) (mmb_heights-odd ((m - 1) / 2)) ∙ rw (first, raised-map h (mmb_heights ((m - 1) / 2)), add-one) refl

pub raised-even : (h m : ℕ) → m % 2 ≡ 0 → 0 < m → raised h (mmb_heights m) ≡ (h + 1) ∷ raised (h + 1) (mmb_heights ((m - 2) / 2))
raised-even h m o lt =
    let e : m ≡ suc (suc ((m - 2) / 2 + (m - 2) / 2)) = omega arith in
    ap (λ k. raised h (mmb_heights k)) e ∙ ap (raised h) (mmb_heights-even ((m - 2) / 2)) ∙ rw (raised-map h (mmb_heights ((m - 2) / 2)), add-one) refl

pub raised-none : (h : ℕ) → raised h (mmb_heights 0) ≡ []
unfolding mmb_heights
raised-none h = refl

merge_here : (e h : ℕ) (ks : List ℕ) → merge e h (h ∷ ks) ≡ (e - 2 ^ suc h, suc h) ∷ []
merge_here e h ks = elim (eqb_tells h h) [
  | inl t ↦ rw t.0 refl
  | inr t ↦ absurd (t.1 refl)
]

merge_on : (e h : ℕ) (ks : List ℕ) → merge e h ((h + 1) ∷ ks) ≡ merge (e - 2 ^ h) (h + 1) ks
merge_on e h ks = elim (eqb_tells h (h + 1)) [
  | inl t ↦ absurd (omega (arith, t.1))
  | inr t ↦ rw t.0 refl
]

-- m has t ones at its low end, and then a zero
pub EndsInOnes : ℕ → ℕ → Type 0
EndsInOnes zero m = m % 2 ≡ 0
EndsInOnes (suc t) m = (m % 2 ≡ 1) × EndsInOnes t (m / 2)

ends_in_ones : (t m : ℕ) → bit_at m t ≡ 0 → ((i : ℕ) → i < t → bit_at m i ≡ 1) → EndsInOnes t m
unfolding EndsInOnes
ends_in_ones zero m z o = let e : m / 2 ^ 0 ≡ m = omega arith in rw e at z
ends_in_ones (suc t) m z o =
    let first : m / 2 ^ 0 % 2 ≡ 1 = o 0 (omega arith) in
    let whole : m / 2 ^ 0 ≡ m = omega arith in
    let later = λ (i : ℕ). let s : m / 2 ^ 1 / 2 ^ i ≡ m / 2 ^ (1 + i) = shr-shr m 1 i in let k : 1 + i ≡ suc i = omega arith in let r : m / 2 / 2 ^ i ≡ m / 2 ^ suc i = s ∙ ap (λ j. m / 2 ^ j) k in r in
    (rw whole at first, ends_in_ones t (m / 2) (ap (λ q. q % 2) (later t) ∙ z) (λ i lt. ap (λ q. q % 2) (later i) ∙ o (suc i) (omega arith)))

pub ends_in_trailing_ones : (n : ℕ) → n + 1 < 2 ^ 64 → EndsInOnes (trailing_ones w64 n) n
ends_in_trailing_ones n small = let b = bit_at-trailing_ones w64 n small in ends_in_ones (trailing_ones w64 n) n b.1 b.2

-- what the step from m to its half needs
record Halved (t m : ℕ) : Type 0 where
  even : m % 2 ≡ 0
  half : EndsInOnes t ((m - 2) / 2 + 1)
  same : m ≡ (m - 2) / 2 + (m - 2) / 2 + 2

halved : (t m : ℕ) → EndsInOnes (suc t) (m + 1) → 0 < m → Halved t m
unfolding EndsInOnes
halved t m o lt =
    let f : (m + 1) % 2 ≡ 1 = o.0 in
    let k : (m + 1) / 2 ≡ (m - 2) / 2 + 1 = omega arith in
    let E : ℕ → Type 0 = λ n. EndsInOnes t n in
    record { even = omega arith; half = subst E k o.1; same = omega arith }

zero_ends : (t : ℕ) → EndsInOnes t 0 → t ≡ 0
unfolding EndsInOnes
zero_ends zero o = refl
zero_ends (suc t) o = absurd (let f : 0 % 2 ≡ 1 = o.0 in omega arith)

above_zero : (t m : ℕ) → EndsInOnes (suc t) (m + 1) → (m + 2 ≡ 2 ^ suc t → ⊥) → 0 < m
unfolding EndsInOnes
above_zero t m o ne = elim (eqb_tells m 0) [
  | inl z ↦
      let h : (m + 1) / 2 ≡ 0 = (let q = z.1 in omega arith) in
      let E : ℕ → Type 0 = λ n. EndsInOnes t n in
      let u = zero_ends t (subst E h o.1) in
      let p : 2 ^ suc t ≡ 2 = rw u refl in
      absurd (ne (let q = z.1 in omega arith))
  | inr n ↦ let q = n.1 in omega arith
]

pub three_fit : (t m : ℕ) → EndsInOnes t (m + 1) → (m + 2 ≡ 2 ^ t → ⊥) → 3 * 2 ^ t ≤ m + 2
unfolding EndsInOnes
three_fit zero m o ne = let f : (m + 1) % 2 ≡ 0 = o in omega arith
three_fit (suc t) m o ne =
    let d = halved t m o (above_zero t m o ne) in
    let two : 2 ^ suc t ≡ 2 ^ t * 2 = pow-suc 2 t in
    let r = three_fit t ((m - 2) / 2) d.half (λ w. ne (omega (arith, w, d.same))) in
    omega (arith, r, d.same)

starts : (m w v e j : ℕ) → e ≡ (m + 1) * w → v ≡ w * 2 → m ≡ j + j + 2 → e - w ≡ (j + 1) * v
starts m w v e j a b c = rw (b, a, c) (omega arith)

-- the merge that an append makes, where m + 1 ends in t ones and isn't all ones
pub merge-some : (t e h m : ℕ) → EndsInOnes t (m + 1) → e ≡ (m + 1) * 2 ^ h → (m + 2 ≡ 2 ^ t → ⊥)
    → merge e h (raised h (mmb_heights m)) ≡ (e + 2 ^ h - 2 ^ (h + t) - 2 ^ suc (h + t), suc (h + t)) ∷ []
unfolding EndsInOnes
merge-some zero e h m o q ne =
    let f : (m + 1) % 2 ≡ 0 = o in
    let odd : m % 2 ≡ 1 = omega arith in
    let z : h + 0 ≡ h = omega arith in
    let d : e + 2 ^ h - 2 ^ h - 2 ^ suc h ≡ e - 2 ^ suc h = omega arith in
    ap (merge e h) (raised-odd h m odd) ∙ merge_here e h _ ∙ rw (z, d) refl
merge-some (suc t) e h m o q ne =
    let some = above_zero t m o ne in
    let d = halved t m o some in
    let two : 2 ^ suc t ≡ 2 ^ t * 2 = pow-suc 2 t in
    let twice : 2 ^ (h + 1) ≡ 2 ^ h * 2 = rw add-one (pow-suc 2 h) in
    let q' : e - 2 ^ h ≡ ((m - 2) / 2 + 1) * 2 ^ (h + 1) = starts m (2 ^ h) (2 ^ (h + 1)) e ((m - 2) / 2) q twice d.same in
    let r = merge-some t (e - 2 ^ h) (h + 1) ((m - 2) / 2) d.half q' (λ w. ne (omega (arith, w, d.same))) in
    let s : h + 1 + t ≡ h + suc t = omega arith in
    let least : 2 ^ h ≤ e = rw q (omega arith) in
    let sum : e - 2 ^ h + 2 ^ (h + 1) ≡ e + 2 ^ h = omega arith in
    ap (merge e h) (raised-even h m d.even some) ∙ merge_on e h _ ∙ r ∙ rw (sum, s) refl

pub merge-none : (t e h m : ℕ) → m + 2 ≡ 2 ^ t → merge e h (raised h (mmb_heights m)) ≡ []
merge-none zero e h m q = absurd (omega arith)
merge-none (suc t) e h m q = elim (eqb_tells m 0) [
  | inl z ↦ ap (λ k. merge e h (raised h (mmb_heights k))) z.1 ∙ ap (merge e h) (raised-none h)
  | inr n ↦
      let two : 2 ^ suc t ≡ 2 ^ t * 2 = pow-suc 2 t in
      let ne = n.1 in
      let some : 0 < m = omega arith in
      let even : m % 2 ≡ 0 = omega arith in
      ap (merge e h) (raised-even h m even some) ∙ merge_on e h _ ∙ merge-none t (e - 2 ^ h) (h + 1) ((m - 2) / 2) (omega arith)
]

pub raised-zero : (ks : List ℕ) → raised 0 ks ≡ ks
raised-zero [] = refl
raised-zero (k ∷ ks) = let e : 0 + k ≡ k = omega arith in rw (e, raised-zero ks) refl

below_pow : (k : ℕ) → k < 2 ^ k
below_pow zero = omega arith
below_pow (suc k) = let r = below_pow k in let two : 2 ^ suc k ≡ 2 ^ k * 2 = pow-suc 2 k in omega arith

pub few_peaks : (n : ℕ) → length (mmb_heights n) ≤ n
few_peaks n = let d = mmb_peaks-digits n in let b = below_pow (length (mmb_heights n)) in omega (arith, d.0, b)

pub position-parent : (x k half : ℕ) → 0 < k → half ≡ 2 ^ (k - 1) → half + half ≡ 2 ^ k → mmb_size (x + half + half + half - 2) + 1 ≡ mmb_position x k
position-parent x zero half lt a b = absurd (omega arith)
position-parent x (suc k) half lt a b =
    let q : suc k - 1 ≡ k = omega arith in
    let h : half ≡ 2 ^ k = rw q at a in
    let e : x + half + half + half - 2 ≡ x + 2 ^ suc k + 2 ^ k - 2 = omega arith in
    ap (λ m. mmb_size m + 1) e

pub position-leaf : (x k : ℕ) → k ≡ 0 → mmb_size x ≡ mmb_position x k
position-leaf x k z = rw z refl

pub halved_small : (h m r : ℕ) → h < 63 → m < 2 ^ (63 - h) → r + r ≤ m → r < 2 ^ (63 - (h + 1))
halved_small h m r lt b le =
    let e : 63 - h ≡ suc (63 - (h + 1)) = omega arith in
    let two : 2 ^ (63 - h) ≡ 2 ^ (63 - (h + 1)) * 2 = ap (λ k. 2 ^ k) e ∙ pow-suc 2 (63 - (h + 1)) in
    omega arith

-- ---- the parent that an append makes

abbrev pub the_merge : ℕ → List (ℕ × ℕ)
the_merge n = merge (n + 1) 0 (mmb_heights n)

pub the_merge-some : (n : ℕ) → n < 2 ^ 62 → (n + 2 ≡ 2 ^ trailing_ones w64 (n + 1) → ⊥)
    → the_merge n ≡ (n + 2 - 2 ^ trailing_ones w64 (n + 1) - 2 * 2 ^ trailing_ones w64 (n + 1), trailing_ones w64 (n + 1) + 1) ∷ []
the_merge-some n small ne =
    let t = trailing_ones w64 (n + 1) in
    let z : 0 + trailing_ones w64 (n + 1) ≡ trailing_ones w64 (n + 1) = omega arith in
    let one : n + 1 ≡ (n + 1) * 2 ^ 0 = omega arith in
    let s : n + 1 + 2 ^ 0 ≡ n + 2 = omega arith in
    let two : 2 ^ suc (trailing_ones w64 (n + 1)) ≡ 2 * 2 ^ trailing_ones w64 (n + 1) = pow-suc 2 (trailing_ones w64 (n + 1)) ∙ omega arith in
    ap (merge (n + 1) 0) (sym (raised-zero (mmb_heights n))) ∙ merge-some (trailing_ones w64 (n + 1)) (n + 1) 0 n (ends_in_trailing_ones (n + 1) (omega arith)) one ne
    ∙ (let up : suc (trailing_ones w64 (n + 1)) ≡ trailing_ones w64 (n + 1) + 1 = omega arith in rw (z, s, two, up) refl)

pub the_merge-none : (n : ℕ) → n + 2 ≡ 2 ^ trailing_ones w64 (n + 1) → the_merge n ≡ []
the_merge-none n q = ap (merge (n + 1) 0) (sym (raised-zero (mmb_heights n))) ∙ merge-none (trailing_ones w64 (n + 1)) (n + 1) 0 n q

pub the_merge-one : (e h : ℕ) (ks : List ℕ) (i : ℕ) → 0 < i → None ≡ slice_get (merge e h ks) i
the_merge-one e h [] zero lt = absurd (omega arith)
the_merge-one e h [] (suc i) lt = refl
the_merge-one e h (k ∷ ks) zero lt = absurd (omega arith)
the_merge-one e h (k ∷ ks) (suc i) lt = elim (eqb_tells h k) [
  | inl t ↦ rw t.0 refl
  | inr t ↦ rw t.0 (the_merge-one (e - 2 ^ h) k ks (suc i) lt)
]

-- the ones of n + 1, where n + 2 isn't their width
pub ones_low : (t n : ℕ) → n < 2 ^ 62 → 3 * 2 ^ t ≤ n + 2 → t + 1 < 63
ones_low t n small le = elim (order (t + 1) 62) [
  | inl le' ↦ omega arith
  | inr gt ↦ absurd (elim (order t 62) [
    | inl u ↦ let e : t ≡ 62 = omega arith in let p : 2 ^ t ≡ 2 ^ 62 = ap (λ k. 2 ^ k) e in omega arith
    | inr more ↦ let p : 2 ^ 62 < 2 ^ t = pow_below 62 t more in omega arith
  ])
]

pub width_of : (n : ℕ) → n < 2 ^ 62 → 1 * 2 ^ trailing_ones w64 (n + 1) % 18446744073709551616 ≡ 2 ^ trailing_ones w64 (n + 1)
width_of n small = one_shl (trailing_ones w64 (n + 1)) 64 ((bit_at-trailing_ones w64 (n + 1) (omega arith)).0)

pub three_of : (n : ℕ) → n < 2 ^ 62 → (n + 2 ≡ 2 ^ trailing_ones w64 (n + 1) → ⊥) → 3 * 2 ^ trailing_ones w64 (n + 1) ≤ n + 2
three_of n small ne = three_fit (trailing_ones w64 (n + 1)) n (ends_in_trailing_ones (n + 1) (omega arith)) ne
