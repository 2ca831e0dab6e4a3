-- Nodes read from a store.
use Rattle.std.proofs.Common.{◌≡◌, ℕ, zero, suc, ◌+◌, ◌<◌, List, [], ◌∷◌, ◌++◌, map, take, Some, None, Option, refl, sym, ◌∙◌, ap, subst, arith}
use Rattle.std.specs.Prelude.{slice_get, IsSome}
use Rattle.std.specs.Option.{option_map}
use Rattle.std.proofs.lemmas.Option.{slice_get-map, same_Some}
use Rattle.std.proofs.lemmas.List.{map-append}
use Rattle.volume_base.specs.Volume.{State, SameContents}
use Rattle.volume_base.specs.Moments.{present}
use Rattle.tree_store.specs.declared.error.Error.{Error}
use Rattle.tree_store.specs.declared.error.Error.TheVariants.{LocationOverflow, RangeOutOfBounds, LeafOutOfBounds, Empty, ElementPruned, DuplicateLocation, UnsortedLocation, MissingNode, InvalidPinnedNodes, StaleBatch, AncestorDropped, DataCorrupted, Journal, Volume, Memory}
use Rattle.tree_store.specs.Stores.{IsFirstAbsent, IsOutside, IsOutsideOr, IsReadFault, IsReadRefusal}

pub get-take : {X : Type 0} (xs : List X) (j i : ℕ) → i < j → slice_get (take j xs) i ≡ slice_get xs i
get-take [] zero i lt = refl
get-take [] (suc j) i lt = refl
get-take (x ∷ xs) zero i lt = absurd (omega arith)
get-take (x ∷ xs) (suc j) zero lt = refl
get-take (x ∷ xs) (suc j) (suc i) lt = get-take xs j i (omega arith)

-- a volume with the same contents is the same, as far as it is told
pub same_present : (a b : State) → SameContents a b → present a ≡ present b
same_present a b same = λ i. record { log = λ name. sym (same.logs name) i; map = λ name. sym (same.maps name) i }

some_of_same : {D : Type 0} (d : D) (p : Option D) → Some d ≡ p → IsSome p
some_of_same d p e = subst (λ (o : Option _). IsSome o) e refl

mapped : {D : Type 0} (o p : Option D) → option_map (λ (d : D). Some d) o ≡ Some p → IsSome p
mapped (Some d) p e = some_of_same d p (same_Some (Some d) p e)
mapped None p e = absurd (cc)

-- after nodes at the first i positions, a position without one is the first
pub first_absent : {D : Type 0} (told : ℕ → Option D) (ps : List ℕ) (i p : ℕ) (ds : List D) → map Some ds ≡ map told (take i ps) → slice_get ps i ≡ Some p → told p ≡ None → IsFirstAbsent told ps p
first_absent {D = D} told ps i p ds e here absent = record {
  index = i;
  here = here;
  absent = absent;
  before = λ j q lt at.
      let read : slice_get (map told (take i ps)) j ≡ Some (told q) = slice_get-map told (take i ps) j ∙ ap (option_map told) (get-take ps i j lt ∙ at) in
      mapped (slice_get ds j) (told q) (sym (slice_get-map (λ (d : D). Some d) ds j) ∙ ap (λ os. slice_get os j) e ∙ read);
}

-- the items up to one and that one
pub take-next : {X : Type 0} (xs : List X) (j : ℕ) (x : X) → slice_get xs j ≡ Some x → take (suc j) xs ≡ take j xs ++ (x ∷ [])
take-next [] j x e = absurd (cc)
take-next (y ∷ xs) zero x e = let q : y ≡ x = same_Some y x e in ap (λ z. z ∷ []) q
take-next (y ∷ xs) (suc j) x e = ap (λ ys. y ∷ ys) (take-next xs j x e)

-- one more node is read
pub told-next : {D : Type 0} (told : ℕ → Option D) (ds more : List D) (ps : List ℕ) (i p : ℕ) (d : D) → map (λ (d : D). Some d) ds ≡ map told (take i ps) → slice_get ps i ≡ Some p → Some d ≡ told p → more ≡ ds ++ (d ∷ [])
    → map (λ (d : D). Some d) more ≡ map told (take (i + 1) ps)
told-next told ds more ps i p d e at here m =
    let one : i + 1 ≡ suc i = omega arith in
    ap (map (λ d. Some d)) m ∙ map-append (λ d. Some d) ds (d ∷ []) ∙ ap (λ os. os ++ (Some d ∷ [])) e ∙ ap (λ o. map told (take i ps) ++ (o ∷ [])) here
    ∙ sym (ap (λ j. map told (take j ps)) one ∙ ap (map told) (take-next ps i p at) ∙ map-append told (take i ps) (p ∷ []))

-- a refusal of one read is one of several
pub outside_or : {F D : Type 0} (told : ℕ → Option D) (ps : List ℕ) (e : Error F) → IsOutside e → IsOutsideOr told ps e
outside_or told ps Volume o = o
outside_or told ps Memory o = o
outside_or told ps (ElementPruned p) o = absurd o
outside_or told ps (LocationOverflow l) o = o
outside_or told ps (RangeOutOfBounds l) o = o
outside_or told ps (LeafOutOfBounds l) o = o
outside_or told ps Empty o = o
outside_or told ps (DuplicateLocation l) o = o
outside_or told ps (UnsortedLocation l) o = o
outside_or told ps (MissingNode p) o = o
outside_or told ps InvalidPinnedNodes o = o
outside_or told ps StaleBatch o = o
outside_or told ps (AncestorDropped x y) o = o
outside_or told ps (DataCorrupted d) o = o
outside_or told ps (Journal j) o = o

pub fault_or : {F : Type 0} (e : Error F) → IsReadFault e → IsReadRefusal e
fault_or Volume o = o
fault_or Memory o = o
fault_or (ElementPruned p) o = tt
fault_or (LocationOverflow l) o = o
fault_or (RangeOutOfBounds l) o = o
fault_or (LeafOutOfBounds l) o = o
fault_or Empty o = o
fault_or (DuplicateLocation l) o = o
fault_or (UnsortedLocation l) o = o
fault_or (MissingNode p) o = o
fault_or InvalidPinnedNodes o = o
fault_or StaleBatch o = o
fault_or (AncestorDropped x y) o = o
fault_or (DataCorrupted d) o = o
fault_or (Journal j) o = o
