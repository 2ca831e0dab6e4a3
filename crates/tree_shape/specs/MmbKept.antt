-- An append to a Merkle mountain belt reads its peaks, and what it makes.
use Rattle.std.proofs.Common.{◌≡◌, ℕ, zero, suc, ◌+◌, ◌-◌, ◌*◌, ◌^◌, ◌<◌, ◌≤◌, ◌⊎◌, inl, inr, List, [], ◌∷◌, Some, refl, sym, ◌∙◌, ap, subst, arith}
use Rattle.std.specs.Prelude.{slice_get}
use Rattle.std.proofs.Math.Nat.{pow-suc}
use Rattle.std.proofs.lemmas.Nat.{pow_pos}
use Rattle.std.proofs.lemmas.Bool.Decides.{eqb_tells}
use Rattle.std.proofs.lemmas.Option.{some_pair_parts}
use Rattle.tree_shape.specs.Shape.{made, PeaksStand}
use Rattle.tree_shape.specs.Mmb.{merged, merge, mmb_heights, mmb_size, mmb_position, mmb}
use Rattle.tree_shape.specs.MmbPlaces.{HasForm, mmb_heights_have_form, mmb_lawful}
use Rattle.tree_shape.specs.MmrKept.{at_end}
use Rattle.tree_shape.specs.Kept.{PeakIn, PeakOf, IsPeakOrLater, KeepsPeaks}

-- there is room for these peaks below e
Fits : ℕ → List ℕ → Type 0
Fits e [] = Unit {0}
Fits e (k ∷ ks) = (2 ^ k ≤ e) × Fits (e - 2 ^ k) ks

peaks_fit : (cs : List (ℕ × ℕ)) (e : ℕ) (hs : List ℕ) → PeaksStand mmb cs e hs → Fits e hs
unfolding Fits
peaks_fit cs e [] p = tt
peaks_fit cs e (h ∷ hs) p = (p.0, peaks_fit cs (e - 2 ^ h) hs p.2)

-- the joined pair stands behind the new leaf
late : (n e k x h : ℕ) → e + 2 ^ k ≡ suc (suc n) → 2 ^ suc k ≤ e → x ≡ e - 2 ^ suc k → h ≡ suc k
    → mmb.position n 0 ≤ mmb.position x h
late n e k x h q room ex eh =
    let one : 0 < 2 ^ k = pow_pos k in
    let last : e - 2 ^ suc k + 2 ^ suc k + 2 ^ k - 2 ≡ n = omega arith in
    let place : mmb_position (e - 2 ^ suc k) (suc k) ≡ mmb_size n + 1 = ap (λ m. mmb_size m + 1) last in
    rw (ex, eh) (omega (arith, place))

merged_peaks : (n e k : ℕ) (ks : List ℕ) (x h : ℕ) → e + 2 ^ k ≡ suc (suc n) → HasForm k ks → 2 ^ k ≤ e
    → Fits (e - 2 ^ k) ks → PeakIn e (merged k ks) x h
    → (mmb.position n 0 ≤ mmb.position x h) ⊎ PeakIn e (k ∷ ks) x h
unfolding Fits HasForm
merged_peaks n e k [] x h q f le fit p = inr p
merged_peaks n e k (c ∷ ks) x h q f le fit p = elim (eqb_tells k c) [
  | inl t ↦
      let two : 2 ^ suc k ≡ 2 ^ k * 2 = pow-suc 2 k in
      let same : 2 ^ c ≡ 2 ^ k = ap (λ i. 2 ^ i) (sym t.1) in
      let room : 2 ^ suc k ≤ e = omega (arith, fit.0) in
      let start : e - 2 ^ suc k ≡ e - 2 ^ k - 2 ^ c = omega arith in
      let P : List ℕ → Type 0 = λ js. PeakIn e js x h in
      let joined : merged k (c ∷ ks) ≡ suc k ∷ ks = rw t.0 refl in
      let r : PeakIn e (suc k ∷ ks) x h = subst P joined p in
      elim r [
        | inl new ↦ inl (late n e k x h q room new.0 new.1)
        | inr old ↦ inr (inr (inr (at_end (e - 2 ^ suc k) (e - 2 ^ k - 2 ^ c) ks x h start old)))
      ]
  | inr t ↦ elim f.0 [
    | inl e0 ↦ absurd (t.1 (sym e0))
    | inr e1 ↦
        let two : 2 ^ suc k ≡ 2 ^ k * 2 = pow-suc 2 k in
        let wide : 2 ^ c ≡ 2 ^ suc k = ap (λ i. 2 ^ i) e1 in
        let P : List ℕ → Type 0 = λ js. PeakIn e js x h in
        let apart : merged k (c ∷ ks) ≡ k ∷ merged c ks = rw t.0 refl in
        let F : ℕ → Type 0 = λ i. HasForm i ks in
        let form : HasForm c ks = subst F (sym e1) f.1 in
        let r : PeakIn e (k ∷ merged c ks) x h = subst P apart p in
        elim r [
          | inl n0 ↦ inr (inl n0)
          | inr later ↦ elim (merged_peaks n (e - 2 ^ k) c ks x h (omega arith) form fit.0 fit.1 later) [
            | inl l ↦ inl l
            | inr old ↦ inr (inr old)
          ]
        ]
  ]
]

-- what is joined were two neighbouring peaks
merge_children : (e k : ℕ) (ks : List ℕ) (i x c : ℕ) → 2 ^ k ≤ e → Fits (e - 2 ^ k) ks
    → slice_get (merge e k ks) i ≡ Some (x, suc c)
    → PeakIn e (k ∷ ks) x c × PeakIn e (k ∷ ks) (x + 2 ^ c) c
unfolding Fits
merge_children e k [] i x c le f s = absurd (cc)
merge_children e k (d ∷ ks) i x c le f s = elim (eqb_tells k d) [
  | inl t ↦
      let two : 2 ^ suc k ≡ 2 ^ k * 2 = pow-suc 2 k in
      let same : 2 ^ d ≡ 2 ^ k = ap (λ j. 2 ^ j) (sym t.1) in
      let start : e - 2 ^ k - 2 ^ d ≡ e - 2 ^ suc k = omega arith in
      let room : 2 ^ suc k ≤ e = omega (arith, f.0) in
      let one : merge e k (d ∷ ks) ≡ (e - 2 ^ suc k, suc k) ∷ [] = rw t.0 refl in
      pair i (ap (λ js. slice_get js i) (sym one) ∙ s) t.1 start two room
  | inr t ↦
      let apart : merge e k (d ∷ ks) ≡ merge (e - 2 ^ k) d ks = rw t.0 refl in
      let r = merge_children (e - 2 ^ k) d ks i x c f.0 f.1 (ap (λ js. slice_get js i) (sym apart) ∙ s) in
      (inr r.0, inr r.1)
]
  where
    pair : (j : ℕ) → slice_get {X = ℕ × ℕ} ((e - 2 ^ suc k, suc k) ∷ []) j ≡ Some (x, suc c) → k ≡ d
        → e - 2 ^ k - 2 ^ d ≡ e - 2 ^ suc k → 2 ^ suc k ≡ 2 ^ k * 2 → 2 ^ suc k ≤ e
        → PeakIn e (k ∷ d ∷ ks) x c × PeakIn e (k ∷ d ∷ ks) (x + 2 ^ c) c
    pair zero r q start two room =
        let parts = some_pair_parts (e - 2 ^ suc k) x (suc k) (suc c) r in
        let ex : e - 2 ^ suc k ≡ x = parts.0 in
        let ec : k ≡ c = omega (arith, parts.1) in
        let w : 2 ^ c ≡ 2 ^ k = ap (λ j. 2 ^ j) (sym ec) in
        (inr (inl (sym ex ∙ sym start, sym ec ∙ q)), inl (omega arith, sym ec))
    pair (suc j) r q start two room = absurd (cc)

mmb_fits : (n : ℕ) → Fits n (mmb_heights n)
mmb_fits n = peaks_fit (made mmb n) n (mmb_heights n) (mmb_lawful.peaks n)

before_append : (n : ℕ) → Fits (suc n - 2 ^ 0) (mmb_heights n)
before_append n =
    let F : ℕ → Type 0 = λ j. Fits j (mmb_heights n) in
    let e : n ≡ suc n - 2 ^ 0 = omega arith in
    subst F e (mmb_fits n)

-- a peak of n leaves, or leaf n
with_leaf : (n x h : ℕ) → PeakIn (suc n) (0 ∷ mmb_heights n) x h → IsPeakOrLater mmb n x h
with_leaf n x h p =
    let e : suc n - 2 ^ 0 ≡ n = omega arith in
    elim p [
      | inl new ↦ inl (let ex : x ≡ n = new.0 ∙ e in let eh : h ≡ 0 = new.1 in rw (ex, eh) (omega arith))
      | inr old ↦ inr (at_end (suc n - 2 ^ 0) n (mmb_heights n) x h e old)
    ]

peaks_kept : (n x h : ℕ) → PeakOf mmb (suc n) x h → IsPeakOrLater mmb n x h
unfolding mmb_heights
peaks_kept n x h p =
    elim (merged_peaks n (suc n) 0 (mmb_heights n) x h (omega arith) (mmb_heights_have_form n) (omega arith)
    (before_append n) p) [
      | inl new ↦ inl new
      | inr old ↦ with_leaf n x h old
    ]

children_kept : (n i x k : ℕ) → slice_get (mmb.parents n) i ≡ Some (x, suc k)
    → IsPeakOrLater mmb n x k × IsPeakOrLater mmb n (x + 2 ^ k) k
children_kept n i x k s =
    let one : n + 1 ≡ suc n = omega arith in
    let r =
    merge_children (suc n) 0 (mmb_heights n) i x k (omega arith) (before_append n)
    (ap (λ m. slice_get (merge m 0 (mmb_heights n)) i) (sym one) ∙ s) in
    (with_leaf n x k r.0, with_leaf n (x + 2 ^ k) k r.1)

pub mmb_keeps : KeepsPeaks mmb
mmb_keeps = record {
  peaks = peaks_kept;
  left = λ n i x k s. (children_kept n i x k s).0;
  right = λ n i x k s. (children_kept n i x k s).1;
}
