-- Where two lists differ.
use Rattle.std.proofs.Common.{◌≡◌, ℕ, zero, suc, ◌+◌, ◌<◌, ◌≤◌, List, [], ◌∷◌, length, take, get_or, Some, refl, sym, ◌∙◌, arith, add-one}
use Rattle.std.specs.Prelude.{slice_get}
use Rattle.std.proofs.Math.Seq.{take-suc}
use Rattle.std.proofs.lemmas.Option.{slice_get_past, none-some, same_Some}
use Rattle.tree_shape.proofs.NodeLemmas.{read-get_or}

pub reads : {X : Type 0} (xs : List X) (i : ℕ) (d : X) → i < length xs → slice_get xs i ≡ Some (get_or xs i d)
reads [] i d lt = absurd (omega arith)
reads (x ∷ xs) zero d lt = refl
reads (x ∷ xs) (suc i) d lt = reads xs i d (omega arith)

-- one list ends here
pub ends_first : {X : Type 0} (xs ys : List X) (i : ℕ) (d : X) → i < length xs → length ys ≤ i → slice_get xs i ≡ slice_get ys i → ⊥
ends_first xs ys i d lt le e = none-some (get_or xs i d) (sym (slice_get_past ys i le) ∙ sym e ∙ reads xs i d lt)

-- another item stands here
pub items_differ : {X : Type 0} (xs ys : List X) (i : ℕ) (x y d : X) → i < length xs → i < length ys → x ≡ get_or xs i x → y ≡ get_or ys i y → (x ≡ y → ⊥) → slice_get xs i ≡ slice_get ys i → ⊥
items_differ xs ys i x y d lt lt2 ex ey f e =
    f (read-get_or xs i x d lt ex ∙ same_Some (get_or xs i d) (get_or ys i d) (sym (reads xs i d lt) ∙ e ∙ reads ys i d lt2) ∙ sym (read-get_or ys i y d lt2 ey))

pub fronts_on : {X : Type 0} (xs ys : List X) (i : ℕ) (x y d : X) → i < length xs → i < length ys → x ≡ get_or xs i x → y ≡ get_or ys i y → x ≡ y → take i xs ≡ take i ys → take (i + 1) xs ≡ take (i + 1) ys
fronts_on xs ys i x y d lt lt2 ex ey f e =
    let item : get_or xs i d ≡ get_or ys i d = sym (read-get_or xs i x d lt ex) ∙ f ∙ read-get_or ys i y d lt2 ey in
    rw add-one (take-suc xs i d lt ∙ rw (e, item) (sym (take-suc ys i d lt2)))
