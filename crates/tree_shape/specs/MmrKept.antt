use Rattle.std.proofs.Common.{◌≡◌, ℕ, zero, suc, ◌+◌, ◌-◌, ◌*◌, ◌^◌, ◌≤◌, ◌⊎◌, inl, inr, List, [], ◌∷◌, Some, refl, sym, ◌∙◌, ap, subst, arith}
use Rattle.std.specs.Prelude.{slice_get}
use Rattle.std.proofs.Math.Nat.{pow-suc}
use Rattle.std.proofs.lemmas.Bool.Decides.{eqb_tells}
use Rattle.std.proofs.lemmas.Option.{some_pair_parts}
use Rattle.tree_shape.specs.Shape.{made, PeaksStand}
use Rattle.tree_shape.specs.Mmr.{joined, joins, mmr_heights, mmr_size, mmr}
use Rattle.tree_shape.specs.MmrPlaces.{mmr_lawful}
use Rattle.tree_shape.specs.Kept.{PeakIn, PeakOf, IsPeakOrLater, KeepsPeaks}

-- there is room for these peaks below e
pub Fits : ℕ → List ℕ → Type 0
Fits e [] = Unit {0}
Fits e (k ∷ ks) = (2 ^ k ≤ e) × Fits (e - 2 ^ k) ks

pub peaks_fit : (cs : List (ℕ × ℕ)) (e : ℕ) (hs : List ℕ) → PeaksStand mmr cs e hs → Fits e hs
unfolding Fits
peaks_fit cs e [] p = tt
peaks_fit cs e (h ∷ hs) p = (p.0, peaks_fit cs (e - 2 ^ h) hs p.2)

pub at_end : (e f : ℕ) (ks : List ℕ) (x h : ℕ) → e ≡ f → PeakIn e ks x h → PeakIn f ks x h
at_end e f ks x h q p = let P : ℕ → Type 0 = λ d. PeakIn d ks x h in subst P q p

joined_peaks : (e k : ℕ) (ks : List ℕ) (x h : ℕ) → 2 ^ k ≤ e → Fits (e - 2 ^ k) ks → PeakIn e (joined k ks) x h
    → (x + 2 ^ h ≡ e) ⊎ PeakIn (e - 2 ^ k) ks x h
unfolding Fits
joined_peaks e k [] x h le f p = elim p [
  | inl q ↦ inl (let w : 2 ^ h ≡ 2 ^ k = ap (λ i. 2 ^ i) q.1 in omega (arith, q.0))
  | inr n ↦ absurd n
]
joined_peaks e k (c ∷ ks) x h le f p = elim (eqb_tells k c) [
  | inl t ↦
      let two : 2 ^ suc k ≡ 2 ^ k * 2 = pow-suc 2 k in
      let same : 2 ^ c ≡ 2 ^ k = ap (λ i. 2 ^ i) (sym t.1) in
      let room : 2 ^ suc k ≤ e = omega (arith, f.0) in
      let start : e - 2 ^ k - 2 ^ c ≡ e - 2 ^ suc k = omega arith in
      let P : List ℕ → Type 0 = λ js. PeakIn e js x h in
      let q : PeakIn e (joined (suc k) ks) x h = subst P (rw t.0 refl) p in
      let F : ℕ → Type 0 = λ d. Fits d ks in
      elim (joined_peaks e (suc k) ks x h room (subst F start f.1) q) [
        | inl new ↦ inl new
        | inr old ↦ inr (inr (at_end (e - 2 ^ suc k) (e - 2 ^ k - 2 ^ c) ks x h (sym start) old))
      ]
  | inr t ↦
      let P : List ℕ → Type 0 = λ js. PeakIn e js x h in
      let apart : joined k (c ∷ ks) ≡ k ∷ c ∷ ks = rw t.0 refl in
      let q : PeakIn e (k ∷ c ∷ ks) x h = subst P apart p in
      elim q [
        | inl n ↦ inl (let w : 2 ^ h ≡ 2 ^ k = ap (λ i. 2 ^ i) n.1 in omega (arith, n.0))
        | inr old ↦ inr old
      ]
]

joins_children : (e k : ℕ) (ks : List ℕ) (i x c : ℕ) → 2 ^ k ≤ e → Fits (e - 2 ^ k) ks
    → slice_get (joins e k ks) i ≡ Some (x, suc c) → PeakIn (e - 2 ^ k) ks x c × (x + 2 ^ c + 2 ^ c ≡ e)
unfolding Fits
joins_children e k [] i x c le f s = absurd (cc)
joins_children e k (d ∷ ks) i x c le f s = elim (eqb_tells k d) [
  | inr t ↦ absurd (let none : joins e k (d ∷ ks) ≡ [] = rw t.0 refl in let s' = ap (λ js. slice_get js i) (sym none)
      ∙ s in cc)
  | inl t ↦
      let two : 2 ^ suc k ≡ 2 ^ k * 2 = pow-suc 2 k in
      let same : 2 ^ d ≡ 2 ^ k = ap (λ j. 2 ^ j) (sym t.1) in
      let room : 2 ^ suc k ≤ e = omega (arith, f.0) in
      let start : e - 2 ^ k - 2 ^ d ≡ e - 2 ^ suc k = omega arith in
      let more : joins e k (d ∷ ks) ≡ (e - 2 ^ suc k, suc k) ∷ joins e (suc k) ks = rw t.0 refl in
      let F : ℕ → Type 0 = λ j. Fits j ks in
      place i (ap (λ js. slice_get js i) (sym more) ∙ s) t.1 room start two same
      (λ j r. joins_children e (suc k) ks j x c room (subst F start f.1) r)
]
  where
    place : (j : ℕ) → slice_get ((e - 2 ^ suc k, suc k) ∷ joins e (suc k) ks) j ≡ Some (x, suc c) → k ≡ d
        → 2 ^ suc k ≤ e → e - 2 ^ k - 2 ^ d ≡ e - 2 ^ suc k → 2 ^ suc k ≡ 2 ^ k * 2 → 2 ^ d ≡ 2 ^ k
        → ((m : ℕ) → slice_get (joins e (suc k) ks) m ≡ Some (x, suc c)
        → PeakIn (e - 2 ^ suc k) ks x c × (x + 2 ^ c + 2 ^ c ≡ e))
        → PeakIn (e - 2 ^ k) (d ∷ ks) x c × (x + 2 ^ c + 2 ^ c ≡ e)
    place zero r q room start two same later =
        let parts = some_pair_parts (e - 2 ^ suc k) x (suc k) (suc c) r in
        let ex : e - 2 ^ suc k ≡ x = parts.0 in
        let ec : k ≡ c = omega (arith, parts.1) in
        let w : 2 ^ c ≡ 2 ^ k = ap (λ j. 2 ^ j) (sym ec) in
        (inl (sym ex ∙ sym start, sym ec ∙ q), omega arith)
    place (suc j) r q room start two same later =
        let l = later j r in (inr (at_end (e - 2 ^ suc k) (e - 2 ^ k - 2 ^ d) ks x c (sym start) l.0), l.1)

-- what ends at leaf n stands behind the nodes of n leaves
ends_late : (n x h : ℕ) → x + 2 ^ h ≡ suc n → mmr.position n 0 ≤ mmr.position x h
ends_late n x h e =
    let a : x + 2 ^ h - 1 ≡ n = omega arith in
    let b : n + 2 ^ 0 - 1 ≡ n = omega arith in
    let pa : mmr_size (x + 2 ^ h - 1) ≡ mmr_size n = ap mmr_size a in
    let pb : mmr_size (n + 2 ^ 0 - 1) ≡ mmr_size n = ap mmr_size b in
    omega arith

mmr_fits : (n : ℕ) → Fits n (mmr_heights n)
mmr_fits n = peaks_fit (made mmr n) n (mmr_heights n) (mmr_lawful.peaks n)

before_append : (n : ℕ) → Fits (suc n - 2 ^ 0) (mmr_heights n)
before_append n =
    let F : ℕ → Type 0 = λ j. Fits j (mmr_heights n) in
    let e : n ≡ suc n - 2 ^ 0 = omega arith in
    subst F e (mmr_fits n)

peaks_kept : (n x h : ℕ) → PeakOf mmr (suc n) x h → IsPeakOrLater mmr n x h
unfolding mmr_heights
peaks_kept n x h p =
    let e : suc n - 2 ^ 0 ≡ n = omega arith in
    elim (joined_peaks (suc n) 0 (mmr_heights n) x h (omega arith) (before_append n) p) [
      | inl new ↦ inl (ends_late n x h new)
      | inr old ↦ inr (at_end (suc n - 2 ^ 0) n (mmr_heights n) x h e old)
    ]

children_kept : (n i x k : ℕ) → slice_get (mmr.parents n) i ≡ Some (x, suc k)
    → PeakOf mmr n x k × (x + 2 ^ k + 2 ^ k ≡ suc n)
children_kept n i x k s =
    let e : suc n - 2 ^ 0 ≡ n = omega arith in
    let one : n + 1 ≡ suc n = omega arith in
    let r =
    joins_children (suc n) 0 (mmr_heights n) i x k (omega arith) (before_append n)
    (ap (λ m. slice_get (joins m 0 (mmr_heights n)) i) (sym one) ∙ s) in
    (at_end (suc n - 2 ^ 0) n (mmr_heights n) x k e r.0, r.1)

pub mmr_keeps : KeepsPeaks mmr
mmr_keeps = record {
  peaks = peaks_kept;
  left = λ n i x k s. inr (children_kept n i x k s).0;
  right = λ n i x k s. inl (ends_late n (x + 2 ^ k) k (children_kept n i x k s).1);
}
