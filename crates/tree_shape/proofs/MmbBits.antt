-- The peaks of a Merkle mountain belt by the bits of its number of leaves and one.
use Rattle.std.proofs.Common.{◌≡◌, ℕ, zero, suc, ◌+◌, List, [], ◌∷◌, map, true, false, cond, refl, ◌∙◌, ap, arith}
use Rattle.std.specs.Prelude.{◌==◌}
use Rattle.std.proofs.Math.Dec.{eqb-suc-suc}
use Rattle.tree_shape.specs.Mmb.{merged, mmb_heights}

merged-map : (h : ℕ) (ks : List ℕ) → merged (suc h) (map suc ks) ≡ map suc (merged h ks)
merged-map h [] = refl
merged-map h (k ∷ ks) = rw (eqb-suc-suc h k) (elim (h == k) as (λ b. cond b (suc (suc h) ∷ map suc ks) (suc h ∷ merged (suc k) (map suc ks)) ≡ map suc (cond b (suc h ∷ ks) (h ∷ merged k ks))) [
  | true ↦ refl
  | false ↦ ap (λ xs. suc h ∷ xs) (merged-map k ks)
])

mmb_heights-both : (n : ℕ) → (mmb_heights (suc (n + n)) ≡ 0 ∷ map suc (mmb_heights n)) × (mmb_heights (suc (suc (n + n))) ≡ 1 ∷ map suc (mmb_heights n))
unfolding mmb_heights
mmb_heights-both zero = (refl, refl)
mmb_heights-both (suc n) =
    let e : suc n + suc n ≡ suc (suc (n + n)) = omega arith in
    let odd : mmb_heights (suc (suc (suc (n + n)))) ≡ 0 ∷ map suc (mmb_heights (suc n)) =
    ap (merged 0) (mmb_heights-both n).1 ∙ ap (λ xs. 0 ∷ xs) (merged-map 0 (mmb_heights n)) in
    rw e (odd, ap (merged 0) odd)

pub mmb_heights-odd : (n : ℕ) → mmb_heights (suc (n + n)) ≡ 0 ∷ map suc (mmb_heights n)
mmb_heights-odd n = (mmb_heights-both n).0

pub mmb_heights-even : (n : ℕ) → mmb_heights (suc (suc (n + n))) ≡ 1 ∷ map suc (mmb_heights n)
mmb_heights-even n = (mmb_heights-both n).1
