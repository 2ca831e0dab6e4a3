-- Lists that are gone through from a place on.
use Rattle.std.proofs.Common.{◌≡◌, ℕ, true, false, zero, suc, ◌+◌, ◌-◌, ◌<◌, ◌≤◌, List, [], ◌∷◌, ◌++◌, length, map, take, drop, Some, None, refl, sym, ◌∙◌, ap, arith, append_assoc, length-append}
use Rattle.std.specs.Prelude.{slice_get, nat_le}
use Rattle.std.proofs.lemmas.Bool.Decides.{nat_tests}
use Rattle.std.proofs.lemmas.List.{map-append, length-map, drop-map, drop_all, take_all}
use Rattle.std.proofs.lemmas.Option.{same_Some}
use Rattle.auth_journal.specs.Batched.{SealedItems, joined_items, last_length}
use Rattle.auth_journal.specs.Kept.{kept_item}

pub append-nothing : {X : Type 0} (xs : List X) → xs ++ [] ≡ xs
append-nothing [] = refl
append-nothing (x ∷ xs) = ap (λ r. x ∷ r) (append-nothing xs)

-- the next handle is to the next list
pub shared_next : {X Y : Type 0} (f : X → Y) (xs ys : List X) (i : ℕ) (x y : X) → map f ys ≡ take i (map f xs) → slice_get xs i ≡ Some x → f y ≡ f x
    → map f (ys ++ y ∷ []) ≡ take (suc i) (map f xs)
shared_next {Y = Y} f xs ys i x y e at same = map-append f ys (y ∷ []) ∙ ap (λ (r : List Y). r ++ f y ∷ []) e ∙ ap (λ (z : Y). take i (map f xs) ++ z ∷ []) same ∙ last xs i at
  where
    last : (zs : List _) (j : ℕ) → slice_get zs j ≡ Some x → take j (map f zs) ++ f x ∷ [] ≡ take (suc j) (map f zs)
    last [] j p = absurd (cc)
    last (z ∷ zs) zero p = let r : z ≡ x = same_Some z x p in ap (λ w. f w ∷ []) (sym r)
    last (z ∷ zs) (suc j) p = ap (λ (r : List Y). f z ∷ r) (last zs j p)

pub shared_all : {X Y : Type 0} (f : X → Y) (xs ys : List X) (i : ℕ) → length xs ≤ i → map f ys ≡ take i (map f xs) → map f ys ≡ map f xs
shared_all f xs ys i le e = e ∙ take_all i (map f xs) (let l = length-map xs f in omega (arith, le, l))

-- what is left begins with the next list
pub joined_next : {X Item : Type 0} (f : X → List Item) (xs : List X) (i : ℕ) (x : X) → slice_get xs i ≡ Some x → joined_items (drop i (map f xs)) ≡ f x ++ joined_items (drop (suc i) (map f xs))
joined_next f [] i x e = absurd (cc)
joined_next f (y ∷ xs) zero x e = let q : y ≡ x = same_Some y x e in ap (λ z. f z ++ joined_items (map f xs)) q
joined_next f (y ∷ xs) (suc i) x e = joined_next f xs i x e

pub joined_none : {X Item : Type 0} (f : X → List Item) (xs : List X) (i : ℕ) → length xs ≤ i → joined_items (drop i (map f xs)) ≡ []
joined_none {Item = Item} f xs i le = ap (joined_items {Item = Item}) (drop_all i (map f xs) (let l = length-map xs f in omega (arith, le, l)))

-- one more list at the end
pub joined_push : {Item : Type 0} (lists : List (List Item)) (list : List Item) → joined_items (lists ++ list ∷ []) ≡ joined_items lists ++ list
joined_push [] list = append-nothing list
joined_push {Item = Item} (x ∷ lists) list = ap (λ (r : List Item). x ++ r) (joined_push lists list) ∙ sym (append_assoc x (joined_items lists) list)

-- the copies of one more list
pub copied_next : {Item : Type 0} (copies more : List Item) (left rest all : List Item) → copies ++ left ≡ all → left ≡ more ++ rest → (copies ++ more) ++ rest ≡ all
copied_next {Item = Item} copies more left rest all e is = append_assoc copies more rest ∙ ap (λ (r : List Item). copies ++ r) (sym is) ∙ e

-- the last list
pub last_read : {X Item : Type 0} (f : X → List Item) (xs : List X) (k : ℕ) (x : X) → slice_get xs k ≡ Some x → suc k ≡ length xs → last_length (map f xs) ≡ length (f x)
last_read f [] k x at e = absurd (cc)
last_read f (y ∷ []) zero x at e = let q : y ≡ x = same_Some y x at in ap (λ z. length (f z)) q
last_read f (y ∷ []) (suc k) x at e = absurd (omega (arith, e))
last_read f (y ∷ z ∷ xs) zero x at e = absurd (omega (arith, e))
last_read f (y ∷ z ∷ xs) (suc k) x at e = last_read f (z ∷ xs) k x at (omega (arith, e))

pub last_within : {Item : Type 0} (lists : List (List Item)) → last_length lists ≤ length (joined_items lists)
last_within [] = omega arith
last_within (x ∷ []) = omega (arith, length-append x [])
last_within (x ∷ y ∷ lists) = omega (arith, last_within (y ∷ lists), length-append x (joined_items (y ∷ lists)))

-- the newest of some lists are kept, and one list more
pub lists_pushed : {X Y : Type 0} (f : X → Y) (xs ys zs : List X) (p reached : ℕ) (own : X) (y : Y) → ys ≡ drop p xs → zs ≡ ys ++ own ∷ [] → f own ≡ y → p ≡ length xs - reached
    → map f zs ≡ drop (length (map f xs) - reached) (map f xs) ++ y ∷ []
lists_pushed {X = X} {Y = Y} f xs ys zs p reached own y kept pushed is place =
    let e : p ≡ length (map f xs) - reached = place ∙ ap (λ (n : ℕ). n - reached) (sym (length-map xs f)) in
    ap (map f) pushed ∙ map-append f ys (own ∷ []) ∙ ap (λ (r : List Y). r ++ f own ∷ []) (ap (map f) kept ∙ sym (drop-map f p xs) ∙ ap (λ k. drop k (map f xs)) e)
    ∙ ap (λ (z : Y). drop (length (map f xs) - reached) (map f xs) ++ z ∷ []) is

-- ---- an item of one list after another

pub get_first : {X : Type 0} (xs ys : List X) (i : ℕ) → i < length xs → slice_get (xs ++ ys) i ≡ slice_get xs i
get_first [] ys i lt = absurd (omega (arith, lt))
get_first (x ∷ xs) ys zero lt = refl
get_first (x ∷ xs) ys (suc i) lt = get_first xs ys i (omega (arith, lt))

pub get_second : {X : Type 0} (xs ys : List X) (i : ℕ) → length xs ≤ i → slice_get (xs ++ ys) i ≡ slice_get ys (i - length xs)
get_second [] ys i le = let e : i - 0 ≡ i = omega arith in ap (slice_get ys) (sym e)
get_second (x ∷ xs) ys zero le = absurd (omega (arith, le))
get_second (x ∷ xs) ys (suc i) le = let e : suc i - length (x ∷ xs) ≡ i - length xs = omega arith in get_second xs ys i (omega (arith, le)) ∙ ap (slice_get ys) (sym e)

-- of what is left, the first list has the item
pub item_here : {X Item : Type 0} (f : X → List Item) (xs : List X) (i : ℕ) (x : X) (n : ℕ) → slice_get xs i ≡ Some x → n < length (f x)
    → slice_get (joined_items (drop i (map f xs))) n ≡ slice_get (f x) n
item_here f xs i x n at lt = ap (λ (ys : List _). slice_get ys n) (joined_next f xs i x at) ∙ get_first (f x) _ n lt

-- or the lists behind it
pub item_later : {X Item : Type 0} (f : X → List Item) (xs : List X) (i : ℕ) (x : X) (n : ℕ) → slice_get xs i ≡ Some x → length (f x) ≤ n
    → slice_get (joined_items (drop i (map f xs))) n ≡ slice_get (joined_items (drop (suc i) (map f xs))) (n - length (f x))
item_later f xs i x n at le = ap (λ (ys : List _). slice_get ys n) (joined_next f xs i x at) ∙ get_second (f x) _ n le

pub item_none : {X Item : Type 0} (f : X → List Item) (xs : List X) (i n : ℕ) → length xs ≤ i → slice_get (joined_items (drop i (map f xs))) n ≡ None
item_none f xs i n le = ap (λ (ys : List _). slice_get ys n) (joined_none f xs i le)

pub count_next : {X Item : Type 0} (f : X → List Item) (xs : List X) (i : ℕ) (x : X) → slice_get xs i ≡ Some x
    → length (joined_items (drop i (map f xs))) ≡ length (f x) + length (joined_items (drop (suc i) (map f xs)))
count_next f xs i x at = ap length (joined_next f xs i x at) ∙ length-append (f x) (joined_items (drop (suc i) (map f xs)))

-- ---- what a batch keeps

le_true : (m n : ℕ) → m ≤ n → nat_le m n ≡ true
le_true m n h = grind (arith, nat_tests)

le_false : (m n : ℕ) → n < m → nat_le m n ≡ false
le_false m n h = grind (arith, nat_tests)

module _ {D Item : Type 0} (b : SealedItems D Item) (l : ℕ) where
  pub kept_none : l < b.nodes.first → None ≡ kept_item b l
  kept_none lt = rw (le_false b.nodes.first l lt) refl

  pub kept_some : b.nodes.first ≤ l → slice_get (joined_items b.items) (l - b.nodes.first) ≡ kept_item b l
  kept_some le = rw (le_true b.nodes.first l le) refl
