-- The number of peaks and of nodes of a Merkle mountain range.
use Rattle.std.proofs.Common.{◌≡◌, ℕ, zero, suc, ◌+◌, ◌-◌, ◌*◌, ◌/◌, ◌%◌, ◌^◌, ◌≤◌, ◌⊎◌, inl, inr, List, [], ◌∷◌, length, map, true, false, cond, refl, ◌∙◌, ap, arith, length-append}
use Rattle.std.proofs.lemmas.List.{length-map}
use Rattle.std.specs.Prelude.{count_ones, ◌==◌}
use Rattle.std.proofs.Math.Dec.{eqb-suc-suc, eqb-zero-suc}
use Rattle.std.proofs.lemmas.Bool.Decides.{eqb_tells}
use Rattle.std.proofs.lemmas.Nat.{ones_le_self, ones-le}
use lib.Count.{ones_step}
use Rattle.tree_shape.specs.Shape.{made}
use Rattle.tree_shape.specs.Mmr.{joined, joins, mmr_heights, mmr_size, mmr}

-- one more on each height goes through a join
joined-map : (h : ℕ) (ks : List ℕ) → joined (suc h) (map suc ks) ≡ map suc (joined h ks)
joined-map h [] = refl
joined-map h (k ∷ ks) =
    rw (eqb-suc-suc h k) (elim (h == k) as
    (λ b. cond b (joined (suc (suc h)) (map suc ks)) (suc h ∷ suc k ∷ map suc ks) ≡ map suc
    (cond b (joined (suc h) ks) (h ∷ k ∷ ks))) [
      | true ↦ joined-map (suc h) ks
      | false ↦ refl
    ])

joined_low : (ks : List ℕ) → joined 0 (map suc ks) ≡ 0 ∷ map suc ks
joined_low [] = refl
joined_low (k ∷ ks) = rw (eqb-zero-suc k) refl

pub mmr_heights-double : (n : ℕ) → mmr_heights (n + n) ≡ map suc (mmr_heights n)
unfolding mmr_heights
mmr_heights-double zero = refl
mmr_heights-double (suc n) =
    let e : suc n + suc n ≡ suc (suc (n + n)) = omega arith in
    rw e (ap (λ ks. joined 0 (joined 0 ks)) (mmr_heights-double n) ∙ ap (joined 0) (joined_low (mmr_heights n))
    ∙ joined-map 0 (mmr_heights n))

pub mmr_heights-double_suc : (n : ℕ) → mmr_heights (suc (n + n)) ≡ 0 ∷ map suc (mmr_heights n)
unfolding mmr_heights
mmr_heights-double_suc n = ap (joined 0) (mmr_heights-double n) ∙ joined_low (mmr_heights n)

pub halves : (n : ℕ) → ((n ≡ n / 2 + n / 2) × (n % 2 ≡ 0)) ⊎ ((n ≡ suc (n / 2 + n / 2)) × (n % 2 ≡ 1))
halves n = elim (eqb_tells (n % 2) 0) [
  | inl e ↦ let h : n % 2 ≡ 0 = e.1 in inl (omega arith, h)
  | inr e ↦ let h : n % 2 ≡ 1 = omega (arith, e.1) in inr (omega arith, h)
]

-- as many peaks as ones in binary
peaks_count : (fuel n : ℕ) → n ≤ fuel → length (mmr_heights n) ≡ count_ones n
unfolding mmr_heights
peaks_count zero n h =
    let z : n ≡ 0 = omega arith in rw z (let o : count_ones 0 ≡ 0 = omega (arith, ones_le_self 0) in omega (arith, o))
peaks_count (suc fuel) n h = elim (eqb_tells n 0) [
  | inl z ↦ rw z.1 (let o : count_ones 0 ≡ 0 = omega (arith, ones_le_self 0) in omega (arith, o))
  | inr z ↦
      let half : length (mmr_heights (n / 2)) ≡ count_ones (n / 2) = peaks_count fuel (n / 2) (omega (arith, z.1)) in
      let step = ones_step n in
      elim (halves n) [
        | inl e ↦
            let l : length (mmr_heights n) ≡ length (mmr_heights (n / 2)) =
            ap (λ m. length (mmr_heights m)) e.0 ∙ ap length (mmr_heights-double (n / 2))
            ∙ length-map (mmr_heights (n / 2)) suc in
            omega (arith, l, half, step, e.1)
        | inr e ↦
            let l : length (mmr_heights n) ≡ suc (length (mmr_heights (n / 2))) =
            ap (λ m. length (mmr_heights m)) e.0 ∙ ap length (mmr_heights-double_suc (n / 2))
            ∙ ap suc (length-map (mmr_heights (n / 2)) suc) in
            omega (arith, l, half, step, e.1)
      ]
]

pub length-mmr_heights : (n : ℕ) → length (mmr_heights n) ≡ count_ones n
length-mmr_heights n = peaks_count n n (omega arith)

-- each join turns two peaks into one, and makes one node
joins-joined : (e h : ℕ) (ks : List ℕ) → length (joins e h ks) + length (joined h ks) ≡ suc (length ks)
joins-joined e h [] = refl
joins-joined e h (k ∷ ks) =
    elim (h == k) as (λ b. length (cond b ((e - 2 ^ suc h, suc h) ∷ joins e (suc h) ks) []) + length
    (cond b (joined (suc h) ks) (h ∷ k ∷ ks)) ≡ suc (suc (length ks))) [
      | true ↦ omega (arith, joins-joined e (suc h) ks)
      | false ↦ omega arith
    ]

made_count : (n : ℕ) → length (made mmr n) + length (mmr_heights n) ≡ 2 * n
unfolding mmr_heights made
made_count zero = refl
made_count (suc n) =
    let before = made_count n in
    let join = joins-joined (n + 1) 0 (mmr_heights n) in
    let l = length-append (made mmr n) ((n, 0) ∷ joins (n + 1) 0 (mmr_heights n)) in
    omega (arith, before, join, l)

-- the size is the number of nodes
pub length-made_mmr : (n : ℕ) → length (made mmr n) ≡ mmr_size n
length-made_mmr n = omega (arith, made_count n, length-mmr_heights n)

pub mmr_small : (n : ℕ) → length (made mmr n) ≤ 2 * n
mmr_small n = omega (arith, made_count n)

-- as many ones as 2^62 leaves have digits
pub mmr_few_peaks : (n : ℕ) → n ≤ 2 ^ 62 → length (mmr_heights n) ≤ 64
mmr_few_peaks n few = let digits = ones-le 63 n (omega (arith, few)) in omega (arith, length-mmr_heights n, digits)
