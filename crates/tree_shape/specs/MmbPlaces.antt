-- Where the nodes of a Merkle mountain belt stand.
use Rattle.std.proofs.Common.{◌≡◌, ℕ, zero, suc, ◌+◌, ◌-◌, ◌*◌, ◌^◌, ◌<◌, ◌≤◌, ◌⊎◌, inl, inr, List, [], ◌∷◌, ◌++◌, length, true, false, cond, refl, sym, ◌∙◌, ap, subst, arith, length-append, append_assoc, add-one}
use Rattle.std.specs.Prelude.{◌==◌}
use Rattle.std.proofs.Math.Nat.{pow-suc}
use Rattle.std.proofs.lemmas.Nat.{pow_pos}
use Rattle.std.proofs.lemmas.Bool.Decides.{eqb_tells}
use Rattle.std.proofs.lemmas.Option.{slice_get_within}
use Rattle.tree_shape.specs.Shape.{made, Stands, IsWellMade, PeaksStand, IsLawful}
use Rattle.tree_shape.specs.Mmb.{merged, merge, mmb_heights, mmb_size, mmb_position, mmb}
use Rattle.tree_shape.specs.Places.{get-append, get-behind}
use Rattle.tree_shape.specs.MmrPlaces.{peaks_stand-append, well_made-push, append_nil, at_lists, well_made-later}

-- the i-th newest peak has height i or one more
unfoldable pub HasForm : ℕ → List ℕ → Type 0
HasForm i [] = Unit {0}
HasForm i (k ∷ ks) = ((k ≡ i) ⊎ (k ≡ suc i)) × HasForm (suc i) ks

merged_has_form : (h : ℕ) (ks : List ℕ) → HasForm h ks → HasForm h (merged h ks)
unfolding HasForm
merged_has_form h [] f = (inl refl, tt)
merged_has_form h (k ∷ ks) f = elim (eqb_tells h k) [
  | inl t ↦
      let is : suc h ∷ ks ≡ merged h (k ∷ ks) = rw t.0 refl in
      let new : HasForm h (suc h ∷ ks) = (inr refl, f.1) in
      subst (λ (xs : List ℕ). HasForm h xs) is new
  | inr t ↦ elim f.0 [
    | inl e ↦ absurd (t.1 (sym e))
    | inr e ↦
        let is : h ∷ merged (suc h) ks ≡ merged h (k ∷ ks) = rw (t.0, e) refl in
        let new : HasForm h (h ∷ merged (suc h) ks) = (inl refl, merged_has_form (suc h) ks f.1) in
        subst (λ (xs : List ℕ). HasForm h xs) is new
  ]
]

pub mmb_heights_have_form : (n : ℕ) → HasForm 0 (mmb_heights n)
unfolding mmb_heights HasForm
mmb_heights_have_form zero = tt
mmb_heights_have_form (suc n) = merged_has_form 0 (mmb_heights n) (mmb_heights_have_form n)

merge-merged : (e h : ℕ) (ks : List ℕ) → length (merge e h ks) + length (merged h ks) ≡ suc (length ks)
merge-merged e h [] = refl
merge-merged e h (k ∷ ks) =
    elim (h == k) as (λ b. length (cond b ((e - 2 ^ suc h, suc h) ∷ []) (merge (e - 2 ^ h) k ks)) + length
    (cond b (suc h ∷ ks) (h ∷ merged k ks)) ≡ suc (suc (length ks))) [
      | true ↦ omega arith
      | false ↦ omega (arith, merge-merged (e - 2 ^ h) k ks)
    ]

made_count : (n : ℕ) → length (made mmb n) + length (mmb_heights n) ≡ 2 * n
unfolding mmb_heights made
made_count zero = refl
made_count (suc n) =
    omega (
      arith,
      made_count n,
      merge-merged (n + 1) 0 (mmb_heights n),
      length-append (made mmb n)
          ((n, 0) ∷ merge (n + 1) 0 (mmb_heights n)),
    )

-- the size is the number of nodes
pub length-made_mmb : (n : ℕ) → length (made mmb n) ≡ mmb_size n
length-made_mmb n = omega (arith, made_count n)

-- the peaks stand, and before them those of heights 0 to h - 1: the newest pair is joined
push_merge : (n e h : ℕ) (pre : List (ℕ × ℕ)) (ks : List ℕ) → e + 2 ^ h ≡ suc (suc n) → length pre ≡ suc (mmb_size n)
    → HasForm h ks
    → IsWellMade mmb (suc n) pre → PeaksStand mmb pre e (h ∷ ks)
    → IsWellMade mmb (suc n) (pre ++ merge e h ks) × PeaksStand mmb (pre ++ merge e h ks) e (merged h ks)
unfolding HasForm
push_merge n e h pre [] q l f w p = at_lists mmb (suc n) e pre _ (h ∷ []) _ (sym (append_nil pre)) refl (w, p)
push_merge n e h pre (k ∷ ks) q l f w p = elim (eqb_tells h k) [
  | inl t ↦
      let two : 2 ^ suc h ≡ 2 ^ h * 2 = pow-suc 2 h in
      let one : 0 < 2 ^ h = pow_pos h in
      let same : 2 ^ k ≡ 2 ^ h = ap (λ i. 2 ^ i) (sym t.1) in
      let room : 2 ^ suc h ≤ e = omega (arith, p.0, p.2.0) in
      let left_start : e - 2 ^ h - 2 ^ k ≡ e - 2 ^ suc h = omega arith in
      let right_start : e - 2 ^ suc h + 2 ^ h ≡ e - 2 ^ h = omega arith in
      let left : Stands pre (mmb_position (e - 2 ^ suc h) h) (e - 2 ^ suc h) h =
      rw (← left_start) (subst (λ (i : ℕ). Stands pre (mmb_position (e - 2 ^ h - 2 ^ k) i) (e - 2 ^ h - 2 ^ k) i)
      (sym t.1) p.2.1) in
      let right : Stands pre (mmb_position (e - 2 ^ suc h + 2 ^ h) h) (e - 2 ^ suc h + 2 ^ h) h = rw right_start p.1 in
      let last : e - 2 ^ suc h + 2 ^ suc h + 2 ^ h - 2 ≡ n = omega arith in
      let place : mmb_position (e - 2 ^ suc h) (suc h) ≡ length pre = ap (λ m. mmb_size m + 1) last ∙ omega arith in
      let pushed : IsWellMade mmb (suc n) (pre ++ ((e - 2 ^ suc h, suc h) ∷ [])) =
      well_made-push mmb (suc n) pre (e - 2 ^ suc h) (suc h) w place (omega arith)
      (left, right, slice_get_within pre _ _ left, slice_get_within pre _ _ right) in
      let stands : Stands (pre ++ ((e - 2 ^ suc h, suc h) ∷ [])) (mmb_position (e - 2 ^ suc h) (suc h)) (e - 2 ^ suc h)
      (suc h) = rw place (get-behind pre [] _) in
      let rest : PeaksStand mmb (pre ++ ((e - 2 ^ suc h, suc h) ∷ [])) (e - 2 ^ suc h) ks =
      rw (← left_start) (peaks_stand-append mmb pre _ (e - 2 ^ h - 2 ^ k) ks p.2.2) in
      let all : pre ++ ((e - 2 ^ suc h, suc h) ∷ []) ≡ pre ++ merge e h (k ∷ ks) = rw t.0 refl in
      let new : suc h ∷ ks ≡ merged h (k ∷ ks) = rw t.0 refl in
      at_lists mmb (suc n) e _ _ (suc h ∷ ks) _ all new (pushed, (room, stands, rest))
  | inr t ↦ elim f.0 [
    | inl e0 ↦ absurd (t.1 (sym e0))
    | inr e1 ↦
        let two : 2 ^ suc h ≡ 2 ^ h * 2 = pow-suc 2 h in
        let onward : e - 2 ^ h + 2 ^ suc h ≡ suc (suc n) = omega (arith, p.0) in
        let peaks : PeaksStand mmb pre (e - 2 ^ h) (suc h ∷ ks) =
        subst (λ (i : ℕ). PeaksStand mmb pre (e - 2 ^ h) (i ∷ ks)) e1 p.2 in
        let more = push_merge n (e - 2 ^ h) (suc h) pre ks onward l f.1 w peaks in
        let all : pre ++ merge (e - 2 ^ h) (suc h) ks ≡ pre ++ merge e h (k ∷ ks) = rw (t.0, e1) refl in
        let new : h ∷ merged (suc h) ks ≡ merged h (k ∷ ks) = rw (t.0, e1) refl in
        at_lists mmb (suc n) e _ _ (h ∷ merged (suc h) ks) _ all new (more.0, (p.0, get-append pre _ _ _ p.1, more.1))
  ]
]

mmb_stands : (n : ℕ) → IsWellMade mmb n (made mmb n) × PeaksStand mmb (made mmb n) n (mmb_heights n)
unfolding mmb_heights made
mmb_stands zero = (
  record { placed = λ i x h at. absurd (cc); within = λ i x h at. absurd (cc); behind = λ i x h at. absurd (cc) },
  refl,
)
mmb_stands (suc n) =
    let before = mmb_stands n in
    let size = length-made_mmb n in
    let place : mmb_position n 0 ≡ length (made mmb n) = omega arith in
    let pushed : IsWellMade mmb (suc n) (made mmb n ++ ((n, 0) ∷ [])) =
    well_made-push mmb (suc n) (made mmb n) n 0 (well_made-later mmb n (suc n) _ (omega arith) before.0) place
    (omega arith) tt in
    let l : length (made mmb n ++ ((n, 0) ∷ [])) ≡ suc (mmb_size n) = length-append (made mmb n) _ ∙ omega arith in
    let start : suc n - 2 ^ 0 ≡ n = omega arith in
    let last : Stands (made mmb n ++ ((n, 0) ∷ [])) (mmb_position (suc n - 2 ^ 0) 0) (suc n - 2 ^ 0) 0 =
    rw (start, place) (get-behind (made mmb n) [] _) in
    let rest : PeaksStand mmb (made mmb n ++ ((n, 0) ∷ [])) (suc n - 2 ^ 0) (mmb_heights n) =
    rw start (peaks_stand-append mmb (made mmb n) _ n (mmb_heights n) before.1) in
    let more =
    push_merge n (suc n) 0 (made mmb n ++ ((n, 0) ∷ [])) (mmb_heights n) (omega arith) l
    (mmb_heights_have_form n) pushed (omega arith, last, rest) in
    let all : (made mmb n ++ ((n, 0) ∷ [])) ++ merge (suc n) 0 (mmb_heights n) ≡ made mmb n ++
    ((n, 0) ∷ merge (n + 1) 0 (mmb_heights n)) =
    rw add-one (append_assoc (made mmb n) _ _) in
    at_lists mmb (suc n) (suc n) _ _ (merged 0 (mmb_heights n)) _ all refl more

pub mmb_lawful : IsLawful mmb
mmb_lawful = record { well_made = λ n. (mmb_stands n).0; peaks = λ n. (mmb_stands n).1 }

pub mmb_small : (n : ℕ) → length (made mmb n) ≤ 2 * n
mmb_small n = omega (arith, made_count n)
