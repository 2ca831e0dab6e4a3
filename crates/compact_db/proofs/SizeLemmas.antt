-- Sizes of a list, in lists of them.
use Rattle.std.proofs.Common.{◌≡◌, inl, inr, ℕ, zero, suc, ◌+◌, ◌-◌, ◌<◌, ◌≤◌, List, [], ◌∷◌, ◌++◌, length, map, take, drop, Option, Some, None, refl, sym, ◌∙◌, ap, subst, arith}
use Rattle.std.specs.Prelude.{slice_get}
use Rattle.std.specs.List.{AllByRecursion}
use Rattle.std.specs.Option.{option_map}
use Rattle.std.proofs.lemmas.Bool.Decides.{leb_tells}
use Rattle.std.proofs.lemmas.Option.{slice_get-map}
use Rattle.std.proofs.lemmas.List.{length-append, length-take, take_all, take-append-le}
use Rattle.log_model.specs.AppliedSizes.{first_at_least}
use Rattle.log_model.specs.Meaning.{Meaning}
use Rattle.log_model.specs.Good.{EndsWithCommit}
use Rattle.witness_store.specs.Witnesses.{Rises}
use Rattle.compact_db.specs.Held.{IsSizeOf}

-- ---- parts of lists

module _ {A : Type 0} (P : A → Type 0) where
  pub all_more : (xs : List A) (x : A) → AllByRecursion P xs → P x → AllByRecursion P (xs ++ (x ∷ []))
  all_more [] x all here = (here, tt)
  all_more (y ∷ ys) x all here = (all.0, all_more ys x all.1 here)

  pub all_behind : (n : ℕ) (xs : List A) → AllByRecursion P xs → AllByRecursion P (drop n xs)
  all_behind zero xs all = all
  all_behind (suc n) [] all = tt
  all_behind (suc n) (x ∷ xs) all = all_behind n xs all.1

  pub all_before : (n : ℕ) (xs : List A) → AllByRecursion P xs → AllByRecursion P (take n xs)
  all_before zero xs all = tt
  all_before (suc n) [] all = tt
  all_before (suc n) (x ∷ xs) all = (all.0, all_before n xs all.1)

  pub all_weaker : (Q : A → Type 0) (xs : List A) → ((x : A) → P x → Q x) → AllByRecursion P xs → AllByRecursion Q xs
  all_weaker Q [] give all = tt
  all_weaker Q (x ∷ xs) give all = (give x all.0, all_weaker Q xs give all.1)

  pub all_both : (Q R : A → Type 0) (xs : List A) → ((x : A) → P x → Q x → R x) → AllByRecursion P xs → AllByRecursion Q xs → AllByRecursion R xs
  all_both Q R [] give all too = tt
  all_both Q R (x ∷ xs) give all too = (give x all.0 too.0, all_both Q R xs give all.1 too.1)

  pub all_at : (xs : List A) (i : ℕ) (x : A) → AllByRecursion P xs → slice_get xs i ≡ Some x → P x
  all_at [] i x all is = absurd cc
  all_at (y ∷ ys) zero x all is = let e : y ≡ x = cc in subst P e all.0
  all_at (y ∷ ys) (suc i) x all is = all_at ys i x all.1 is

pub get_behind : {X : Type 0} (xs : List X) (s n : ℕ) → slice_get (drop s xs) n ≡ slice_get xs (s + n)
get_behind xs zero n = ap (slice_get xs) (omega arith)
get_behind [] (suc s) n = refl
get_behind (x ∷ xs) (suc s) n =
    let next : suc (s + n) ≡ suc s + n = omega arith in
    get_behind xs s n ∙ ap (slice_get (x ∷ xs)) next

pub get_before : {X : Type 0} (xs : List X) (n i : ℕ) → i < n → slice_get (take n xs) i ≡ slice_get xs i
get_before xs zero i lt = absurd (omega (arith, lt))
get_before [] (suc n) i lt = refl
get_before (x ∷ xs) (suc n) zero lt = refl
get_before (x ∷ xs) (suc n) (suc i) lt = get_before xs n i (omega (arith, lt))

some_of : {A B : Type 0} (f : A → B) (o : Option A) (y : B) → option_map f o ≡ Some y → (x : A) × (o ≡ Some x) × (y ≡ f x)
some_of f None y is = absurd cc
some_of f (Some x) y is = let e : f x ≡ y = cc in (x, refl, sym e)

-- what a map has at a place is of what stands there
pub got_map : {A B : Type 0} (f : A → B) (xs : List A) (i : ℕ) (y : B) → slice_get (map f xs) i ≡ Some y → (x : A) × (slice_get xs i ≡ Some x) × (y ≡ f x)
got_map f xs i y is = some_of f (slice_get xs i) y (sym (slice_get-map f xs i) ∙ is)

take_front : {X : Type 0} (xs : List X) (n m : ℕ) → n ≤ m → take n (take m xs) ≡ take n xs
take_front xs zero m le = refl
take_front xs (suc n) zero le = absurd (omega (arith, le))
take_front [] (suc n) (suc m) le = refl
take_front (x ∷ xs) (suc n) (suc m) le = ap (λ l. x ∷ l) (take_front xs n m (omega (arith, le)))

-- ---- sizes of a list

module _ {Op V : Type 0} (m : Meaning Op V) where
  pub size_longer : (ops more : List Op) (n : ℕ) → IsSizeOf m ops n → IsSizeOf m (ops ++ more) n
  size_longer ops more n is =
      let le = is.0 in
      let front : take n (ops ++ more) ≡ take n ops = take-append-le n ops more le in
      (omega (arith, le, length-append ops more), subst (λ (l : List Op). EndsWithCommit m l) (sym front) is.1)

  pub size_shorter : (ops : List Op) (size n : ℕ) → n ≤ size → IsSizeOf m ops n → IsSizeOf m (take size ops) n
  size_shorter ops size n below is =
      let le = is.0 in
      let front : take n (take size ops) ≡ take n ops = take_front ops n size below in
      (omega (arith, le, below, length-take size ops), subst (λ (l : List Op). EndsWithCommit m l) (sym front) is.1)

  pub size_whole : (ops : List Op) → EndsWithCommit m ops → IsSizeOf m ops (length ops)
  size_whole ops ends = (omega arith, subst (λ (l : List Op). EndsWithCommit m l) (sym (take_all (length ops) ops (omega arith))) ends)

  pub size_some : (ops : List Op) (n : ℕ) → IsSizeOf m ops n → 0 < n
  size_some ops zero is = absurd is.1
  size_some ops (suc n) is = omega arith

-- ---- sizes that rise

-- none is above the last
pub all_upto : (ns : List ℕ) (z : ℕ) → Rises ns → slice_get ns (length ns - 1) ≡ Some z → AllByRecursion (λ n. n ≤ z) ns
all_upto [] z rises last = tt
all_upto (n ∷ []) z rises last = let e : n ≡ z = cc in (omega (arith, e), tt)
all_upto (n ∷ k ∷ ns) z rises last =
    let count : length (n ∷ k ∷ ns) - 1 ≡ suc (length (k ∷ ns) - 1) = omega arith in
    let rest = all_upto (k ∷ ns) z rises.1 (rw count at last) in
    let here = rises.0 in
    let next = rest.0 in
    (omega (arith, here, next), rest)

rises_rest : (n : ℕ) (ns : List ℕ) → Rises (n ∷ ns) → Rises ns
rises_rest n [] rises = tt
rises_rest n (k ∷ ks) rises = rises.1

first_least : (n : ℕ) (ns : List ℕ) (i x : ℕ) → Rises (n ∷ ns) → slice_get (n ∷ ns) i ≡ Some x → n ≤ x
first_least n ns zero x rises is = let e : n ≡ x = cc in omega (arith, e)
first_least n [] (suc i) x rises is = absurd cc
first_least n (k ∷ ks) (suc i) x rises is = let later = first_least k ks i x rises.1 is in let first = rises.0 in omega (arith, later, first)

-- those before the first of at least so many are less, and the others aren't
pub before_first : (least : ℕ) (ns : List ℕ) (i x : ℕ) → i < first_at_least least ns → slice_get ns i ≡ Some x → x < least
before_first least [] i x lt is = absurd (omega (arith, lt))
before_first least (n ∷ ns) zero x lt is = elim (leb_tells least n) [
  | inl t ↦ let none : first_at_least least (n ∷ ns) ≡ 0 = rw t.0 refl in absurd (omega (arith, lt, none))
  | inr t ↦ let e : n ≡ x = cc in omega (arith, t.1, e)
]
before_first least (n ∷ ns) (suc i) x lt is = elim (leb_tells least n) [
  | inl t ↦ let none : first_at_least least (n ∷ ns) ≡ 0 = rw t.0 refl in absurd (omega (arith, lt, none))
  | inr t ↦ let next : first_at_least least (n ∷ ns) ≡ suc (first_at_least least ns) = rw t.0 refl in before_first least ns i x (omega (arith, lt, next)) is
]

pub from_first : (least : ℕ) (ns : List ℕ) (i x : ℕ) → Rises ns → first_at_least least ns ≤ i → slice_get ns i ≡ Some x → least ≤ x
from_first least [] i x rises le is = absurd cc
from_first least (n ∷ ns) zero x rises le is = elim (leb_tells least n) [
  | inl t ↦ let e : n ≡ x = cc in omega (arith, t.1, e)
  | inr t ↦ let next : first_at_least least (n ∷ ns) ≡ suc (first_at_least least ns) = rw t.0 refl in absurd (omega (arith, le, next))
]
from_first least (n ∷ ns) (suc i) x rises le is = elim (leb_tells least n) [
  | inl t ↦ let low = first_least n ns (suc i) x rises is in omega (arith, t.1, low)
  | inr t ↦ let next : first_at_least least (n ∷ ns) ≡ suc (first_at_least least ns) = rw t.0 refl in from_first least ns i x (rises_rest n ns rises) (omega (arith, le, next)) is
]
