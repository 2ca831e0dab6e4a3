-- Reads at several locations, one after another.
use Rattle.std.proofs.Common.{◌≡◌, ◌⊎◌, inl, inr, ℕ, zero, suc, ◌+◌, ◌<◌, ◌≤◌, List, [], ◌∷◌, ◌++◌, length, take, map, Some, None, Option, Ok, Err, refl, sym, ◌∙◌, ap, subst, arith}
use Rattle.std.specs.Prelude.{slice_get, Result, IsErrOf, IfOk, IsOkUnless}
use Rattle.std.specs.List.{AllByRecursion}
use Rattle.std.specs.Result.{IsErrAnd}
use Rattle.log_model.specs.Meaning.{Meaning}
use Rattle.log_model.specs.Reads.{or_else, unless_refused, unordered, first_below, last_outside, many_answer, many_refusal, value_at}
use Rattle.log_model.specs.declared.refusal.Refusal.{Refusal}
use Rattle.log_model.specs.declared.refusal.Refusal.TheVariants as refusal
use Rattle.chain_core.specs.Answers.{IsOutside, IsRefusedWhere, read_refusal_of}
use Rattle.chain_core.specs.declared.error.Error.{Error}
use Rattle.chain_core.specs.declared.error.Error.TheVariants as db_error
use Rattle.keyless_db.specs.Reading.{AnswersAs, last_past, locations_refusal, below_start, first_refused}
use Rattle.keyless_db.proofs.LocationLemmas.{neither, last_of_list, rising_below, taken_none, all_more, mapped_none, mapped_more, none_refused, one_refused, below_is_first}

-- ---- answers

pub refused_ok : {A : Type 0} (r : Option Refusal) (x y : A) → unless_refused r x ≡ Ok y → (r ≡ None) × (x ≡ y)
refused_ok None x y is = (refl, cc)
refused_ok (Some why) x y is = absurd cc

pub refused_err : {A : Type 0} (r : Option Refusal) (x : A) (why : Refusal) → unless_refused r x ≡ Err why → r ≡ Some why
refused_err None x why is = absurd cc
refused_err (Some other) x why is = cc

pub refused_by : {A : Type 0} (r : Option Refusal) (x : A) (why : Refusal) → r ≡ Some why → unless_refused r x ≡ Err why
refused_by r x why is = ap (λ o. unless_refused o x) is

pub taken_all : {A : Type 0} (xs : List A) (i : ℕ) → length xs ≤ i → take i xs ≡ xs
taken_all [] zero le = refl
taken_all [] (suc i) le = refl
taken_all (x ∷ xs) zero le = absurd (omega (arith, le))
taken_all {A = A} (x ∷ xs) (suc i) le = ap (λ (ys : List A). x ∷ ys) (taken_all xs i (omega (arith, le)))

module _ {F T A : Type 0} (shown : T → A) where
  pub answers_by : (a b : Result A Refusal) (r : Result T (Error F)) → a ≡ b → AnswersAs shown a r → AnswersAs shown b r
  answers_by a b r is answer = subst (λ (x : Result A Refusal). AnswersAs {F = F} shown x r) is answer

  -- an error that a call handed on
  pub answers_err : (a : Result A Refusal) (r : Result T (Error F)) (e : Error F) → IsErrAnd r (λ d. d ≡ e) → AnswersAs {F = F} {T = T} shown a (Err e) → AnswersAs shown a r
  answers_err a (Ok x) e is answer = absurd is
  answers_err a (Err d) e is answer = subst (λ (x : Error F). AnswersAs {F = F} {T = T} shown a (Err x)) (sym is) answer

  -- want of memory
  pub answers_memory : (a : Result A Refusal) (r : Result T (Error F)) → IsErrAnd r (λ d. d ≡ db_error.Memory) → AnswersAs shown a r
  answers_memory a (Ok x) is = absurd is
  answers_memory a (Err d) is = inl (subst IsOutside (sym is) tt)

-- an error that is the refusal
pub answers_refused : {F A : Type 0} (r : Option Refusal) (x : A) (why : Refusal) (e : Error F) → r ≡ Some why → read_refusal_of e ≡ Some why
    → IsOutside e ⊎ ((w : Refusal) × (unless_refused r x ≡ Err w) × (read_refusal_of e ≡ Some w))
answers_refused r x why e is of = inr (why, refused_by r x why is, of)

-- a value that is copied, or isn't for want of memory
pub answers_copied : {F A : Type 0} (a : Result A Refusal) (v : A) (r : Result A (Error F)) → a ≡ Ok v → IfOk r (λ x. x ≡ v) → IsOkUnless r db_error.Memory → AnswersAs (λ (x : A). x) a r
answers_copied a v (Ok x) is same memory = is ∙ ap Ok (sym same)
answers_copied a v (Err e) is same memory = inl (subst IsOutside (sym memory) tt)

-- an answer that nothing refuses
pub unrefused : {A : Type 0} (r : Option Refusal) (x y : A) → r ≡ None → x ≡ y → unless_refused r x ≡ Ok y
unrefused r x y is of = ap (λ o. unless_refused o x) is ∙ ap Ok of

-- ---- one read after another

module _ {X : Type 0} (refuses : ℕ → Option Refusal) (value : ℕ → X) (locs : List ℕ) where
  -- The first so many are read, none of them is refused, and these are their values.
  pub record ReadSoFar (i : ℕ) (values : List X) : Type 0 where
    pub values_are : values ≡ map value (take i locs)
    pub none : AllByRecursion (λ l. refuses l ≡ None) (take i locs)

  pub so_far_none : (values : List X) → values ≡ [] → ReadSoFar 0 values
  so_far_none values is = record { values_are = is ∙ sym (mapped_none value locs); none = taken_none (λ l. refuses l ≡ None) locs }

  pub so_far_more : (i l : ℕ) (values more : List X) (v : X) → slice_get locs i ≡ Some l → ReadSoFar i values → unless_refused (refuses l) (value l) ≡ Ok v → more ≡ values ++ (v ∷ []) → ReadSoFar (i + 1) more
  so_far_more i l values more v at so is pushed =
      let r = refused_ok (refuses l) (value l) v is in
      let e : suc i ≡ i + 1 = omega arith in
      record {
        values_are = pushed ∙ ap (λ (xs : List X). xs ++ (v ∷ [])) so.values_are ∙ ap (λ (x : X). map value (take i locs) ++ (x ∷ [])) (sym r.1) ∙ mapped_more value locs i l at ∙ ap (λ n. map value (take n locs)) e;
        none = subst (λ n. AllByRecursion (λ l. refuses l ≡ None) (take n locs)) e (all_more (λ l. refuses l ≡ None) locs i l at so.none r.0);
      }

  pub so_far_all : (i : ℕ) (values : List X) → length locs ≤ i → ReadSoFar i values → unless_refused (first_refused refuses locs) (map value locs) ≡ Ok values
  so_far_all i values end so =
      let whole = taken_all locs i end in
      let none = none_refused refuses locs (subst (λ (xs : List ℕ). AllByRecursion (λ l. refuses l ≡ None) xs) whole so.none) in
      ap (λ o. unless_refused o (map value locs)) none ∙ ap Ok (sym (so.values_are ∙ ap (λ (xs : List ℕ). map value xs) whole))

  pub so_far_refused : {F S T : Type 0} (shown : S → X) (all : T → List X) (i l : ℕ) (values : List X) (e : Error F) (r : Result T (Error F)) → IsErrAnd r (λ d. d ≡ e) → slice_get locs i ≡ Some l → ReadSoFar i values
      → AnswersAs shown (unless_refused (refuses l) (value l)) (Err e) → AnswersAs all (unless_refused (first_refused refuses locs) (map value locs)) r
  so_far_refused {F = F} {T = T} shown all i l values e r handed at so answer = answers_err all _ r e handed (by answer)
    where
      by : AnswersAs shown (unless_refused (refuses l) (value l)) (Err e) → AnswersAs {F = F} {T = T} all (unless_refused (first_refused refuses locs) (map value locs)) (Err e)
      by (inl out) = inl out
      by (inr (why, is, of)) = inr (why, refused_by (first_refused refuses locs) (map value locs) why (one_refused refuses locs i l why at so.none (refused_err (refuses l) (value l) why is)), of)

-- ---- what a list answers

pub fit_rising : (locs : List ℕ) (size : ℕ) → locations_refusal size locs ≡ None → unordered locs ≡ None
fit_rising locs size fit = (neither (unordered locs) (last_past size locs) fit).0

pub fit_within : (locs : List ℕ) (size i l : ℕ) → locations_refusal size locs ≡ None → slice_get locs i ≡ Some l → l < size
fit_within locs size i l fit at = let r = neither (unordered locs) (last_past size locs) fit in rising_below size locs i l r.0 r.1 at

module _ {Op V : Type 0} (m : Meaning Op V) (ops : List Op) (locs : List ℕ) where
  pub many_fit : (start : ℕ) (why : ℕ → Refusal) → locations_refusal (length ops) locs ≡ None → many_refusal ops start why locs ≡ first_below start why locs
  many_fit start why fit =
      let r = neither (unordered locs) (last_past (length ops) locs) fit in
      ap (λ o. or_else o (or_else (last_outside ops locs) (first_below start why locs))) r.0
      ∙ ap (λ o. or_else o (first_below start why locs)) (last_of_list ops locs ∙ r.1)

  pub many_unfit : (start : ℕ) (low : ℕ → Refusal) (why : Refusal) → locations_refusal (length ops) locs ≡ Some why → many_refusal ops start low locs ≡ Some why
  many_unfit start low why is =
      ap (λ o. or_else (unordered locs) (or_else o (first_below start low locs))) (last_of_list ops locs)
      ∙ or_three (unordered locs) (last_past (length ops) locs) (first_below start low locs) is
    where
      or_three : (x y z : Option Refusal) → or_else x y ≡ Some why → or_else x (or_else y z) ≡ Some why
      or_three None None z is = absurd cc
      or_three None (Some r) z is = is
      or_three (Some r) y z is = is

  -- those of a database that begins at a start
  pub many_from_start : (start : ℕ) → locations_refusal (length ops) locs ≡ None
      → many_answer m ops start refusal.ItemPruned locs ≡ unless_refused (first_refused (below_start start) locs) (map (value_at m ops) locs)
  many_from_start start fit =
      ap (λ o. unless_refused o (map (value_at m ops) locs)) (many_fit start refusal.ItemPruned fit ∙ sym (below_is_first start locs (fit_rising locs (length ops) fit)))

-- ---- tests of locations

pub fit_ok : {T : Type 0} (F : Type 0) (r : Option Refusal) (x : T) → IsRefusedWhere {F = F} r (Ok x) → r ≡ None
fit_ok F None x is = refl
fit_ok F (Some why) x is = absurd is

pub unfit_err : {F : Type 0} (T : Type 0) (r : Option Refusal) (e : Error F) → IsRefusedWhere {F = F} {A = T} r (Err e) → (why : Refusal) × (r ≡ Some why) × (read_refusal_of e ≡ Some why)
unfit_err T None e is = absurd cc
unfit_err T (Some why) e is = (why, refl, is)

-- an error that is the refusal where there is one
pub is_refused : {F : Type 0} (T : Type 0) (r : Option Refusal) (e : Error F) (why : Refusal) → r ≡ Some why → read_refusal_of e ≡ Some why → IsRefusedWhere {A = T} r (Err e)
is_refused {F = F} T r e why is of = subst (λ (o : Option Refusal). IsRefusedWhere {F = F} {A = T} o (Err e)) (sym is) of

-- an answer where there is none
pub is_fit : {T : Type 0} (F : Type 0) (r : Option Refusal) (x : T) → r ≡ None → IsRefusedWhere {F = F} r (Ok x)
is_fit F r x is = subst (λ (o : Option Refusal). IsRefusedWhere {F = F} o (Ok x)) (sym is) refl

-- a refusal by name is no failure of the volume
pub named_never : {F T : Type 0} (e : Error F) (why : Refusal) → read_refusal_of e ≡ Some why → IsErrOf {T = T} (Err e) db_error.Volume → ⊥
named_never e why is at =
    let same : e ≡ db_error.Volume = cc in
    let none : read_refusal_of e ≡ None = ap read_refusal_of same in
    cc
