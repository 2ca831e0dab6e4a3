-- Several locations, one after another, and what is read at them.
use Rattle.std.proofs.Common.{◌≡◌, ℕ, zero, suc, ◌<◌, ◌≤◌, Bool, true, false, List, [], ◌∷◌, ◌++◌, length, take, map, Some, None, Option, refl, sym, ◌∙◌, ap, subst, arith}
use Rattle.std.specs.Prelude.{slice_get, nat_lt, nat_le, ◌==◌, if◌then◌else◌}
use Rattle.std.specs.List.{AllByRecursion}
use Rattle.std.proofs.lemmas.Bool.Decides.{nat_tests}
use Rattle.log_model.specs.Reads.{or_else, refuse_if, unordered, first_below, last_outside}
use Rattle.log_model.specs.declared.refusal.Refusal.{Refusal}
use Rattle.log_model.specs.declared.refusal.Refusal.TheVariants as refusal
use Rattle.keyless_db.specs.Reading.{last_past, below_start, first_refused}

-- ---- tests

pub lt_true : (a b : ℕ) → a < b → nat_lt a b ≡ true
lt_true a b lt = grind (arith, nat_tests)

pub lt_false : (a b : ℕ) → b ≤ a → nat_lt a b ≡ false
lt_false a b le = grind (arith, nat_tests)

pub lt_holds : (a b : ℕ) → nat_lt a b ≡ true → a < b
lt_holds a b is = grind (arith, nat_tests)

pub lt_fails : (a b : ℕ) → nat_lt a b ≡ false → b ≤ a
lt_fails a b is = grind (arith, nat_tests)

pub le_true : (a b : ℕ) → a ≤ b → nat_le a b ≡ true
le_true a b le = grind (arith, nat_tests)

pub le_false : (a b : ℕ) → b < a → nat_le a b ≡ false
le_false a b lt = grind (arith, nat_tests)

pub le_holds : (a b : ℕ) → nat_le a b ≡ true → a ≤ b
le_holds a b is = grind (arith, nat_tests)

pub le_fails : (a b : ℕ) → nat_le a b ≡ false → b < a
le_fails a b is = grind (arith, nat_tests)

pub some_count : (n : ℕ) → (n == 0) ≡ false → 0 < n
some_count n is = grind (arith, nat_tests)

-- ---- refusals

pub not_refused : (b : Bool) (r : Refusal) → refuse_if b r ≡ None → b ≡ false
not_refused true r is = absurd cc
not_refused false r is = refl

pub neither : (x y : Option Refusal) → or_else x y ≡ None → (x ≡ None) × (y ≡ None)
neither None y is = (refl, is)
neither (Some r) y is = absurd cc

-- ---- an order

rose : (b : Bool) (o : Option Refusal) (r : Refusal) → (if b then o else Some r) ≡ None → (b ≡ true) × (o ≡ None)
rose true o r is = (refl, is)
rose false o r is = absurd cc

one : (x : ℕ) (xs : List ℕ) → unordered (x ∷ take zero xs) ≡ None
one x [] = refl
one x (y ∷ xs) = refl

-- two places in a row rise, and so do those before
pub rises_more : (xs : List ℕ) (i a b : ℕ) → slice_get xs i ≡ Some a → slice_get xs (suc i) ≡ Some b → a < b → unordered (take (suc i) xs) ≡ None → unordered (take (suc (suc i)) xs) ≡ None
rises_more [] i a b at next lt so = absurd cc
rises_more (x ∷ []) i a b at next lt so = absurd cc
rises_more (x ∷ y ∷ xs) zero a b at next lt so =
    let here : x ≡ a = cc in
    let there : y ≡ b = cc in
    let e : nat_lt x y ≡ true = lt_true x y (omega (arith, here, there, lt)) in
    rw e (one y xs)
rises_more (x ∷ y ∷ xs) (suc i) a b at next lt so =
    let r = rose (nat_lt x y) (unordered (y ∷ take i xs)) (refusal.LocationOutOfOrder x y) so in
    let e : nat_lt x y ≡ true = r.0 in
    rw e (rises_more (y ∷ xs) i a b at next lt r.1)

-- these two don't, and those before do
pub breaks_at : (xs : List ℕ) (i a b : ℕ) → slice_get xs i ≡ Some a → slice_get xs (suc i) ≡ Some b → b ≤ a → unordered (take (suc i) xs) ≡ None → unordered xs ≡ Some (refusal.LocationOutOfOrder a b)
breaks_at [] i a b at next le so = absurd cc
breaks_at (x ∷ []) i a b at next le so = absurd cc
breaks_at (x ∷ y ∷ xs) zero a b at next le so =
    let here : x ≡ a = cc in
    let there : y ≡ b = cc in
    let e : nat_lt x y ≡ false = lt_false x y (omega (arith, here, there, le)) in
    rw e (cc)
breaks_at (x ∷ y ∷ xs) (suc i) a b at next le so =
    let r = rose (nat_lt x y) (unordered (y ∷ take i xs)) (refusal.LocationOutOfOrder x y) so in
    let e : nat_lt x y ≡ true = r.0 in
    rw e (breaks_at (y ∷ xs) i a b at next le r.1)

-- where they rise, none is below the first
pub rising_from : (x : ℕ) (xs : List ℕ) (i y : ℕ) → unordered (x ∷ xs) ≡ None → slice_get (x ∷ xs) i ≡ Some y → x ≤ y
rising_from x [] zero y so at = let e : x ≡ y = cc in omega (arith, e)
rising_from x [] (suc i) y so at = absurd cc
rising_from x (z ∷ xs) zero y so at = let e : x ≡ y = cc in omega (arith, e)
rising_from x (z ∷ xs) (suc i) y so at =
    let r = rose (nat_lt x z) (unordered (z ∷ xs)) (refusal.LocationOutOfOrder x z) so in
    let lt = lt_holds x z r.0 in
    let le = rising_from z xs i y r.1 at in
    omega (arith, lt, le)

-- where they rise, and the last is below a size, each is
pub rising_below : (size : ℕ) (xs : List ℕ) (i y : ℕ) → unordered xs ≡ None → last_past size xs ≡ None → slice_get xs i ≡ Some y → y < size
rising_below size [] i y so last at = absurd cc
rising_below size (x ∷ []) zero y so last at =
    let e : x ≡ y = cc in
    let lt = le_fails size x (not_refused (nat_le size x) (refusal.LocationOutOfBounds x size) last) in
    omega (arith, lt, e)
rising_below size (x ∷ []) (suc i) y so last at = absurd cc
rising_below size (x ∷ z ∷ xs) zero y so last at =
    let e : x ≡ y = cc in
    let r = rose (nat_lt x z) (unordered (z ∷ xs)) (refusal.LocationOutOfOrder x z) so in
    let lt = lt_holds x z r.0 in
    let below = rising_below size (z ∷ xs) zero z r.1 last refl in
    omega (arith, lt, below, e)
rising_below size (x ∷ z ∷ xs) (suc i) y so last at =
    let r = rose (nat_lt x z) (unordered (z ∷ xs)) (refusal.LocationOutOfOrder x z) so in
    rising_below size (z ∷ xs) i y r.1 last at

-- the last of several by their list is the last by its length
pub last_of_list : {Op : Type 0} (ops : List Op) (xs : List ℕ) → last_outside ops xs ≡ last_past (length ops) xs
last_of_list ops [] = refl
last_of_list ops (x ∷ []) = refl
last_of_list ops (x ∷ y ∷ xs) = last_of_list ops (y ∷ xs)

-- the last of some
pub last_is : (size : ℕ) (xs : List ℕ) (i x : ℕ) → slice_get xs i ≡ Some x → suc i ≡ length xs → last_past size xs ≡ refuse_if (nat_le size x) (refusal.LocationOutOfBounds x size)
last_is size [] i x at end = absurd cc
last_is size (y ∷ []) zero x at end = let e : y ≡ x = cc in ap (λ l. refuse_if (nat_le size l) (refusal.LocationOutOfBounds l size)) e
last_is size (y ∷ []) (suc i) x at end = absurd cc
last_is size (y ∷ z ∷ xs) zero x at end = absurd (omega (arith, end))
last_is size (y ∷ z ∷ xs) (suc i) x at end = last_is size (z ∷ xs) i x at (omega (arith, end))

-- ---- one more place

pub nothing_taken : {A : Type 0} (xs : List A) → take zero xs ≡ []
nothing_taken [] = refl
nothing_taken (x ∷ xs) = refl

pub taken_none : {A : Type 0} (P : A → Type 0) (xs : List A) → AllByRecursion P (take zero xs)
taken_none P [] = tt
taken_none P (x ∷ xs) = tt

pub all_more : {A : Type 0} (P : A → Type 0) (xs : List A) (i : ℕ) (x : A) → slice_get xs i ≡ Some x → AllByRecursion P (take i xs) → P x → AllByRecursion P (take (suc i) xs)
all_more P [] i x at all is = absurd cc
all_more P (y ∷ xs) zero x at all is = let e : x ≡ y = cc in (subst P e is, taken_none P xs)
all_more P (y ∷ xs) (suc i) x at all is = (all.0, all_more P xs i x at all.1 is)

pub mapped_none : {A B : Type 0} (f : A → B) (xs : List A) → map f (take zero xs) ≡ []
mapped_none f [] = refl
mapped_none f (x ∷ xs) = refl

pub mapped_more : {A B : Type 0} (f : A → B) (xs : List A) (i : ℕ) (x : A) → slice_get xs i ≡ Some x → map f (take i xs) ++ (f x ∷ []) ≡ map f (take (suc i) xs)
mapped_more f [] i x at = absurd cc
mapped_more {B = B} f (y ∷ xs) zero x at = let e : x ≡ y = cc in ap (λ z. f z ∷ []) e ∙ ap (λ (zs : List B). f y ∷ zs) (sym (mapped_none f xs))
mapped_more {B = B} f (y ∷ xs) (suc i) x at = ap (λ (zs : List B). f y ∷ zs) (mapped_more f xs i x at)

-- ---- the first that is refused

module _ (refuses : ℕ → Option Refusal) where
  pub none_refused : (xs : List ℕ) → AllByRecursion (λ l. refuses l ≡ None) xs → first_refused refuses xs ≡ None
  none_refused [] all = refl
  none_refused (x ∷ xs) all = ap (λ o. or_else o (first_refused refuses xs)) all.0 ∙ none_refused xs all.1

  pub one_refused : (xs : List ℕ) (i x : ℕ) (why : Refusal) → slice_get xs i ≡ Some x → AllByRecursion (λ l. refuses l ≡ None) (take i xs) → refuses x ≡ Some why → first_refused refuses xs ≡ Some why
  one_refused [] i x why at all is = absurd cc
  one_refused (y ∷ xs) zero x why at all is = let e : y ≡ x = cc in ap (λ o. or_else o (first_refused refuses xs)) (ap refuses e ∙ is)
  one_refused (y ∷ xs) (suc i) x why at all is = ap (λ o. or_else o (first_refused refuses xs)) all.0 ∙ one_refused xs i x why at all.1 is

none_below : (start y : ℕ) (xs : List ℕ) → unordered (y ∷ xs) ≡ None → start ≤ y → first_refused (below_start start) xs ≡ None
none_below start y [] so le = refl
none_below start y (x ∷ xs) so le =
    let r = rose (nat_lt y x) (unordered (x ∷ xs)) (refusal.LocationOutOfOrder y x) so in
    let lt = lt_holds y x r.0 in
    let low : start ≤ x = omega (arith, lt, le) in
    let e : nat_lt x start ≡ false = lt_false x start low in
    rw e (none_below start x xs r.1 low)

-- of locations that rise the first alone can be the first below a start
pub below_is_first : (start : ℕ) (xs : List ℕ) → unordered xs ≡ None → first_refused (below_start start) xs ≡ first_below start refusal.ItemPruned xs
below_is_first start [] so = refl
below_is_first start (x ∷ xs) so = by (nat_lt x start) refl
  where
    by : (b : Bool) → nat_lt x start ≡ b → or_else (refuse_if (nat_lt x start) (refusal.ItemPruned x)) (first_refused (below_start start) xs) ≡ refuse_if (nat_lt x start) (refusal.ItemPruned x)
    by true is = rw is refl
    by false is = rw is (none_below start x xs so (lt_fails x start is))
