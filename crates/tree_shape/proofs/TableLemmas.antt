-- The peaks of both families by binary digits.
use Rattle.std.proofs.Common.{◌≡◌, ℕ, zero, suc, ◌+◌, ◌-◌, ◌*◌, ◌/◌, ◌^◌, ◌<◌, ◌≤◌, inl, inr, List, ◌∷◌, length, map, true, false, cond, refl, sym, ◌∙◌, ap, arith}
use Rattle.std.specs.Prelude.{◌==◌, filter}
use Rattle.std.specs.Int.{bit_at}
use Rattle.std.specs.List.{range_with_len}
use Rattle.std.proofs.Math.Nat.{pow-suc}
use Rattle.std.proofs.lemmas.Nat.{pow_pos}
use Rattle.std.proofs.lemmas.Nat.Bits.{bit_at-suc, bit_at_lowest}
use Rattle.std.proofs.lemmas.List.FromFn.{length-map-range_with_len}
use Rattle.tree_shape.specs.Shape.{made}
use Rattle.tree_shape.specs.Mmr.{mmr_heights}
use Rattle.tree_shape.specs.MmrSize.{mmr_heights-double, mmr_heights-double_suc, halves}
use Rattle.tree_shape.specs.Mmb.{mmb, mmb_heights}
use Rattle.tree_shape.specs.MmbPlaces.{length-made_mmb}
use Rattle.tree_shape.specs.Table.{ones, raised_digits}
use Rattle.tree_shape.proofs.MmbBits.{mmb_heights-odd, mmb_heights-even}

plus_suc : (a b v : ℕ) → b ≡ suc a → b + v ≡ suc (a + v)
plus_suc a b v q = omega arith

-- the ones of a number are those of its half, one place up
ones_up : (n m a b k : ℕ) → b ≡ suc a → ((i : ℕ) → bit_at n (suc i) ≡ bit_at m i)
    → filter (λ i. bit_at n i == 1) (range_with_len b k) ≡ map suc (filter (λ i. bit_at m i == 1) (range_with_len a k))
ones_up n m a b zero q half = refl
ones_up n m a b (suc k) q half =
    let digit : bit_at n b ≡ bit_at m a = ap (λ i. bit_at n i) q ∙ half a in
    let xs : List ℕ = filter (λ i. bit_at n i == 1) (range_with_len (b + 1) k) in
    let ys : List ℕ = filter (λ i. bit_at m i == 1) (range_with_len (a + 1) k) in
    let rest : xs ≡ map suc ys = ones_up n m (a + 1) (b + 1) k (omega arith) half in
    ap (λ v. cond (v == 1) (b ∷ xs) xs) digit
    ∙ (elim (bit_at m a == 1) as (λ t. cond t (b ∷ xs) xs ≡ map suc (cond t (a ∷ ys) ys)) [
      | true ↦ ap (λ i. i ∷ xs) q ∙ ap (λ is. suc a ∷ is) rest
      | false ↦ rest
    ])

pub mmr_table : (k n : ℕ) → n < 2 ^ k → mmr_heights n ≡ ones n k
unfolding mmr_heights
mmr_table zero n few = let none : n ≡ 0 = omega arith in ap mmr_heights none
mmr_table (suc k) n few =
    let two : 2 ^ suc k ≡ 2 ^ k * 2 = pow-suc 2 k in
    let half : mmr_heights (n / 2) ≡ ones (n / 2) k = mmr_table k (n / 2) (omega arith) in
    let xs : List ℕ = filter (λ i. bit_at n i == 1) (range_with_len 1 k) in
    let rest : xs ≡ map suc (ones (n / 2) k) = ones_up n (n / 2) 0 1 k refl (λ i. bit_at-suc n i) in
    elim (halves n) [
      | inl e ↦
          let digit : bit_at n 0 ≡ 0 = bit_at_lowest n ∙ e.1 in
          ap mmr_heights e.0 ∙ mmr_heights-double (n / 2) ∙ ap (map suc) half ∙ sym rest ∙ ap (λ v. cond (v == 1) (0 ∷ xs) xs) (sym digit)
      | inr e ↦
          let digit : bit_at n 0 ≡ 1 = bit_at_lowest n ∙ e.1 in
          ap mmr_heights e.0 ∙ mmr_heights-double_suc (n / 2) ∙ ap (λ is. 0 ∷ map suc is) half ∙ ap (λ is. 0 ∷ is) (sym rest) ∙ ap (λ v. cond (v == 1) (0 ∷ xs) xs) (sym digit)
    ]

digits_up : (n m a b k : ℕ) → b ≡ suc a → ((i : ℕ) → bit_at n (suc i) ≡ bit_at m i)
    → map (λ i. i + bit_at n i) (range_with_len b k) ≡ map suc (map (λ i. i + bit_at m i) (range_with_len a k))
digits_up n m a b zero q half = refl
digits_up n m a b (suc k) q half =
    let digit : bit_at n b ≡ bit_at m a = ap (λ i. bit_at n i) q ∙ half a in
    let xs : List ℕ = map (λ i. i + bit_at n i) (range_with_len (b + 1) k) in
    let rest = digits_up n m (a + 1) (b + 1) k (omega arith) half in
    ap (λ i. i ∷ xs) (ap (λ v. b + v) digit ∙ plus_suc a b (bit_at m a) q) ∙ ap (λ is. suc (a + bit_at m a) ∷ is) rest

pub mmb_table : (k n : ℕ) → 2 ^ k ≤ n + 1 → n + 1 < 2 ^ (k + 1) → mmb_heights n ≡ raised_digits (n + 1) k
unfolding mmb_heights
mmb_table zero n low high = let none : n ≡ 0 = omega arith in ap mmb_heights none
mmb_table (suc k) n low high =
    let two : 2 ^ suc k ≡ 2 ^ k * 2 = pow-suc 2 k in
    let four : 2 ^ (suc k + 1) ≡ 2 ^ (k + 1) * 2 = (let e : suc k + 1 ≡ suc (k + 1) = omega arith in ap (λ i. 2 ^ i) e ∙ pow-suc 2 (k + 1)) in
    let some : 0 < 2 ^ k = pow_pos k in
    let m : ℕ = (n - 1) / 2 in
    let same : (n + 1) / 2 ≡ m + 1 = omega arith in
    let half : mmb_heights m ≡ raised_digits (m + 1) k = mmb_table k m (omega arith) (omega arith) in
    let xs : List ℕ = map (λ i. i + bit_at (n + 1) i) (range_with_len 1 k) in
    let rest : xs ≡ map suc (raised_digits (m + 1) k) = digits_up (n + 1) (m + 1) 0 1 k refl (λ i. bit_at-suc (n + 1) i ∙ ap (λ j. bit_at j i) same) in
    elim (halves n) [
      | inl e ↦
          let even : n ≡ suc (suc (m + m)) = omega (arith, e.0) in
          let digit : bit_at (n + 1) 0 ≡ 1 = bit_at_lowest (n + 1) ∙ omega (arith, e.1) in
          ap mmb_heights even ∙ mmb_heights-even m ∙ ap (λ is. 1 ∷ map suc is) half ∙ ap (λ is. 1 ∷ is) (sym rest) ∙ ap (λ v. (0 + v) ∷ xs) (sym digit)
      | inr e ↦
          let odd : n ≡ suc (m + m) = omega (arith, e.0) in
          let digit : bit_at (n + 1) 0 ≡ 0 = bit_at_lowest (n + 1) ∙ omega (arith, e.1) in
          ap mmb_heights odd ∙ mmb_heights-odd m ∙ ap (λ is. 0 ∷ map suc is) half ∙ ap (λ is. 0 ∷ is) (sym rest) ∙ ap (λ v. (0 + v) ∷ xs) (sym digit)
    ]

pub mmb_table_size : (n k : ℕ) → 2 ^ k ≤ n + 1 → n + 1 < 2 ^ (k + 1) → length (made mmb n) ≡ 2 * n - k
mmb_table_size n k low high =
    let count : length (mmb_heights n) ≡ k = ap length (mmb_table k n low high) ∙ length-map-range_with_len (λ i. i + bit_at (n + 1) i) 0 k in
    length-made_mmb n ∙ ap (λ i. 2 * n - i) count
