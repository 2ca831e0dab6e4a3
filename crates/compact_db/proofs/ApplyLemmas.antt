-- The last operation of a batch, and what an apply may build on.
use Rattle.std.proofs.Common.{◌≡◌, inl, inr, ℕ, zero, suc, ◌-◌, ◌<◌, ◌≤◌, List, [], ◌∷◌, ◌++◌, length, drop, get_or, Option, Some, refl, sym, ◌∙◌, ap, subst, arith}
use Rattle.std.specs.Prelude.{slice_get, Result, Ok, Err, IsOk, IfOk, IfErr, OnOk, IsErrOf, Contains}
use Rattle.chain_core.specs.declared.error.Error.{Error}
use Rattle.chain_core.specs.declared.error.Error.TheVariants.{StaleBatch, Memory}
use Rattle.compact_db.specs.Writing.{IsOutsideOrFull}

-- what holds whatever is answered
pub always : {A E X : Type 0} (r : Result A E) → X → IfOk r (λ a. X)
always (Ok a) x = x
always (Err e) x = tt

-- what two facts of an answer give
pub both : {A E : Type 0} (r : Result A E) (P Q R : A → Type 0) → IfOk r P → IfOk r Q → ((a : A) → P a → Q a → R a) → IfOk r R
both (Ok a) P Q R p q give = give a p q
both (Err e) P Q R p q give = tt

pub all_three : {A E : Type 0} (r : Result A E) (P Q R S : A → Type 0) → IfOk r P → IfOk r Q → IfOk r R → ((a : A) → P a → Q a → R a → S a) → IfOk r S
all_three (Ok a) P Q R S p q s give = give a p q s
all_three (Err e) P Q R S p q s give = tt

-- one thing stands in one place
pub one_item : {X : Type 0} (o : Option X) (x y : X) → o ≡ Some x → o ≡ Some y → x ≡ y
one_item o x y p q = let e : Some x ≡ Some y = sym p ∙ q in cc

pub read_some : {X : Type 0} (xs : List X) (i : ℕ) (x d : X) → i < length xs → x ≡ get_or xs i d → slice_get xs i ≡ Some x
read_some [] i x d lt e = absurd (omega (arith, lt))
read_some (y ∷ xs) zero x d lt e = ap Some (sym e)
read_some (y ∷ xs) (suc i) x d lt e = read_some xs i x d (omega (arith, lt)) e

none_left : (X : Type 0) (k : ℕ) → 0 < length (let xs : List X = drop k [] in xs) → ⊥
none_left X zero lt = omega (arith, lt)
none_left X (suc k) lt = omega (arith, lt)

-- the last of a rest is the last of all
pub last_of_rest : {X : Type 0} (n : ℕ) (xs : List X) (x : X) → 0 < length (drop n xs) → slice_get (drop n xs) (length (drop n xs) - 1) ≡ Some x
    → slice_get xs (length xs - 1) ≡ Some x
last_of_rest zero xs x some e = e
last_of_rest (suc n) [] x some e = absurd (omega (arith, some))
last_of_rest {X} (suc n) (y ∷ []) x some e = absurd (none_left X n some)
last_of_rest (suc n) (y ∷ z ∷ xs) x some e =
    let k : length (y ∷ z ∷ xs) - 1 ≡ suc (length (z ∷ xs) - 1) = omega arith in
    rw k (last_of_rest n (z ∷ xs) x some e)

-- what is read last of a rest is the last of all
pub last_read : {X : Type 0} (xs list : List X) (n : ℕ) (x d : X) → xs ≡ drop n list → 1 ≤ length xs → x ≡ get_or xs (length xs - 1) d
    → slice_get list (length list - 1) ≡ Some x
last_read xs list n x d rest some is =
    let count : length xs ≡ length (drop n list) = ap length rest in
    let read : slice_get xs (length xs - 1) ≡ Some x = read_some xs (length xs - 1) x d (omega (arith, some)) is in
    last_of_rest n list x (omega (arith, count, some))
    (sym (ap (λ k. slice_get xs (k - 1)) count ∙ ap (λ ys. slice_get ys (length (drop n list) - 1)) rest)
    ∙ read)

pub for_each : {A E : Type 0} (r : Result A E) (R : A → Type 0) → ((a : A) → R a) → IfOk r R
for_each (Ok a) R give = give a
for_each (Err e) R give = tt

-- a list that isn't longer
pub none_more : {X : Type 0} (xs more : List X) → length (xs ++ more) ≤ length xs → xs ++ more ≡ xs
none_more [] [] le = refl
none_more [] (y ∷ ys) le = absurd (omega (arith, le))
none_more (x ∷ xs) more le = ap (λ l. x ∷ l) (none_more xs more (omega (arith, le)))

-- what an answer gives where something else is known
pub later_ok : {A E : Type 0} (W : Type 0) (r : Result A E) (P : A → Type 0) → (W → IfOk r P) → IfOk r (λ a. W → P a)
later_ok W (Ok a) P give = give
later_ok W (Err e) P give = tt

pub later_on : {A E : Type 0} (W P : Type 0) (r : Result A E) → (W → OnOk r P) → IfOk r (λ a. W → P)
later_on W P (Ok a) give = give
later_on W P (Err e) give = tt

pub on_later : {A E : Type 0} (W P : Type 0) (r : Result A E) → (W → OnOk r P) → OnOk r (W → P)
on_later W P (Ok a) give = give
on_later W P (Err e) give = tt

pub on_more : {A E : Type 0} (P Q : Type 0) (r : Result A E) → OnOk r P → (P → Q) → OnOk r Q
on_more P Q (Ok a) p give = give p
on_more P Q (Err e) p give = tt

pub err_more : {A E : Type 0} (P Q : E → Type 0) (r : Result A E) → IfErr r P → ((e : E) → P e → Q e) → IfErr r Q
err_more P Q (Ok a) p give = tt
err_more P Q (Err e) p give = give e p

-- a failure from outside, or a full log, is no stale batch
pub outside_not_stale : {F T : Type 0} (r : Result T (Error F)) → IfErr r IsOutsideOrFull → IsErrOf r StaleBatch → ⊥
outside_not_stale (Ok x) out is = absurd cc
outside_not_stale {F} (Err e) out is =
    let here : e ≡ StaleBatch = cc in
    no_stale (subst (λ x. IsOutsideOrFull x) here out)
  where
    no_stale : IsOutsideOrFull {F = F} StaleBatch → ⊥
    no_stale (inl never) = never
    no_stale (inr never) = cc

-- one thing alone is in a list of one
pub only_there : {X : Type 0} (x y : X) (xs : List X) → xs ≡ [] → Contains (x ∷ xs) y → x ≡ y
only_there {X} x y xs none here = one (subst (λ (ys : List X). Contains (x ∷ ys) y) none here)
  where
    one : Contains (x ∷ []) y → x ≡ y
    one (zero, within, is) = is
    one (suc k, within, is) = absurd (omega (arith, within))

-- an error is no answer
pub err_ok : (A : Type 0) {E : Type 0} (e : E) → IsOk (let r : Result A E = Err e in r) → ⊥
err_ok A e is = cc

-- want of memory is no stale batch
pub stale_memory : {F T : Type 0} (x : Error F) → IsErrOf (let r : Result T (Error F) = Err x in r) StaleBatch → x ≡ Memory → ⊥
stale_memory {F} x is memory =
    let here : x ≡ StaleBatch = cc in
    let m : Error F = Memory in
    let bad : m ≡ StaleBatch = sym memory ∙ here in
    cc
