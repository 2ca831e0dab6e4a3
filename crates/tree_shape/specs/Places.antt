-- Nodes in the order of making.
use Rattle.std.proofs.Common.{◌≡◌, ℕ, zero, suc, List, [], ◌∷◌, ◌++◌, length, Some, refl, ap}
use Rattle.std.specs.Prelude.{slice_get}

-- what stands in a list stands there in a longer one
pub get-append : {X : Type 0} (xs ys : List X) (i : ℕ) (x : X) → slice_get xs i ≡ Some x
    → slice_get (xs ++ ys) i ≡ Some x
get-append [] ys i x e = absurd (cc)
get-append (y ∷ xs) ys zero x e = e
get-append (y ∷ xs) ys (suc i) x e = get-append xs ys i x e

-- the first place behind a list
pub get-behind : {X : Type 0} (xs ys : List X) (y : X) → slice_get (xs ++ (y ∷ ys)) (length xs) ≡ Some y
get-behind [] ys y = refl
get-behind (x ∷ xs) ys y = get-behind xs ys y

-- a place of a joined list is one of the first, or the one behind it, or further on
pub data Place {X : Type 0} (xs : List X) (y : X) (i : ℕ) (x : X) : Type 0 where
  before : slice_get xs i ≡ Some x → Place xs y i x
  here : i ≡ length xs → x ≡ y → Place xs y i x

pub place_of : {X : Type 0} (xs : List X) (y : X) (i : ℕ) (x : X) → slice_get (xs ++ (y ∷ [])) i ≡ Some x
    → Place xs y i x
place_of [] y zero x e = here refl (cc)
place_of [] y (suc i) x e = absurd (cc)
place_of (z ∷ xs) y zero x e = before e
place_of (z ∷ xs) y (suc i) x e = elim (place_of xs y i x e) [
  | before p ↦ before p
  | here p q ↦ here (ap suc p) q
]
