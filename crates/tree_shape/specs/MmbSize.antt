-- The number of peaks of a Merkle mountain belt.
use Rattle.std.proofs.Common.{◌≡◌, ℕ, suc, ◌+◌, ◌-◌, ◌*◌, ◌^◌, ◌<◌, ◌≤◌, inl, inr, List, [], ◌∷◌, length, sym, ap, arith}
use Rattle.std.proofs.Math.Nat.{pow-suc}
use Rattle.std.proofs.lemmas.Bool.{cases_lt}
use Rattle.std.proofs.lemmas.Nat.{pow_below}
use Rattle.tree_shape.specs.Shape.{PeaksStand, made}
use Rattle.tree_shape.specs.Mmb.{mmb_heights, mmb}
use Rattle.tree_shape.specs.MmbPlaces.{HasForm, mmb_heights_have_form, mmb_lawful}

total : List ℕ → ℕ
total [] = 0
total (h ∷ hs) = 2 ^ h + total hs

peaks-total : (cs : List (ℕ × ℕ)) (e : ℕ) (hs : List ℕ) → PeaksStand mmb cs e hs → total hs ≡ e
unfolding total
peaks-total cs e [] p = sym p
peaks-total cs e (h ∷ hs) p = let r = peaks-total cs (e - 2 ^ h) hs p.2 in omega (arith, r, p.0)

bounds : (i : ℕ) (hs : List ℕ) → HasForm i hs
    → (2 ^ (i + length hs) ≤ total hs + 2 ^ i) × (total hs + 2 * 2 ^ i ≤ 2 * 2 ^ (i + length hs))
unfolding total HasForm
bounds i [] f = let e : i + 0 ≡ i = omega arith in rw e (omega arith, omega arith)
bounds i (k ∷ ks) f =
    let r = bounds (suc i) ks f.1 in
    let e : i + suc (length ks) ≡ suc i + length ks = omega arith in
    let two : 2 ^ suc i ≡ 2 ^ i * 2 = pow-suc 2 i in
    elim f.0 [
      | inl q ↦ let w : 2 ^ k ≡ 2 ^ i = ap (λ j. 2 ^ j) q in rw e (omega (arith, r.0, w), omega (arith, r.1, w))
      | inr q ↦ let w : 2 ^ k ≡ 2 ^ suc i = ap (λ j. 2 ^ j) q in rw e (omega (arith, r.0, w), omega (arith, r.1, w))
    ]

-- with k peaks n + 1 has k binary digits behind its first
pub mmb_peaks-digits : (n : ℕ) → (2 ^ length (mmb_heights n) ≤ n + 1) × (n + 1 < 2 * 2 ^ length (mmb_heights n))
mmb_peaks-digits n =
    let b = bounds 0 (mmb_heights n) (mmb_heights_have_form n) in
    let t = peaks-total (made mmb n) n (mmb_heights n) (mmb_lawful.peaks n) in
    let e : 0 + length (mmb_heights n) ≡ length (mmb_heights n) = omega arith in
    let lo = rw e at b.0 in
    let hi = rw e at b.1 in
    (omega (arith, lo, t), omega (arith, hi, t))

pub mmb_few_peaks : (n : ℕ) → n ≤ 2 ^ 62 → length (mmb_heights n) ≤ 64
mmb_few_peaks n few = elim (cases_lt 63 (length (mmb_heights n))) [
  | inl many ↦
      let digits = mmb_peaks-digits n in
      let wide : 2 ^ 63 < 2 ^ length (mmb_heights n) = pow_below 63 (length (mmb_heights n)) many in
      absurd (omega (arith, few, digits.0, wide))
  | inr le ↦ omega (arith, le)
]
