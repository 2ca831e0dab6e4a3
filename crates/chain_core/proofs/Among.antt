-- When a list has an item.
use Rattle.std.proofs.Common.{◌≡◌, List, ◌∷◌, Bool, true, sym, arith, suc, zero}
use Rattle.std.specs.List.{Contains, list_any}
use Rattle.std.specs.Bool.{Decides}
use Rattle.std.specs.Cmp.{IsEquivalence, back_equiv}
use Rattle.std.specs.Ordering.{flip_args}
use Rattle.std.proofs.lemmas.Map.Views.{Contains-from_any, list_any-from_Contains}

-- a test that tells all items apart finds exactly what is in the list
pub list_any-Decides : {K : Type 0} {eq : K → K → Bool} → IsEquivalence eq → ((x y : K) → eq x y ≡ true → x ≡ y)
    → (x : K) (ys : List K) → Decides (list_any (λ y. eq y x) ys) (Contains ys x)
list_any-Decides {eq = eq} laws exact x ys = (
  Contains-from_any {eq = flip_args eq} (λ a b e. sym (exact b a e)) x ys,
  list_any-from_Contains {eq = flip_args eq} (back_equiv laws) x ys,
)

-- what is not the first item of a list is in it exactly where it is in the rest
pub Contains-rest : {K : Type 0} (x y : K) (ys : List K) (b : Bool) → (x ≡ y → ⊥) → Decides b (Contains ys x) → Decides b (Contains (y ∷ ys) x)
Contains-rest {K} x y ys b apart rest = (λ t. later (rest.0 t), λ h. rest.1 (earlier h))
  where
    later : Contains ys x → Contains (y ∷ ys) x
    later (k, within, is) = (suc k, omega arith, is)

    earlier : Contains (y ∷ ys) x → Contains ys x
    earlier (zero, within, is) = absurd (apart (sym is))
    earlier (suc k, within, is) = (k, omega arith, is)
