-- Reads of lists of which all that may be read is kept.
use Rattle.std.proofs.Common.{◌≡◌, inl, inr, ℕ, ◌≤◌, Bool, true, false, ◌||◌, List, [], ◌∷◌, length, map, Option, Some, None, Ok, Err, refl, sym, ◌∙◌, ap, subst, arith}
use Rattle.std.specs.Prelude.{Result, IfOk, IfErr, nat_le, nat_lt, not, ◌&&◌, if◌then◌else◌}
use Rattle.std.specs.Bool.{Decides}
use Rattle.std.specs.List.{AllByRecursion}
use Rattle.tree_shape.specs.declared.mmr.Mmr.{Mmr}
use Rattle.log_model.specs.Machine.{State}
use Rattle.log_model.specs.Reads as log
use Rattle.log_model.specs.Reads.{or_else, refuse_if, unless_refused, unordered, first_below, read_refusal, many_refusal, value_at, Reading}
use Rattle.log_model.specs.declared.refusal.Refusal.{Refusal}
use Rattle.log_model.specs.declared.refusal.Refusal.TheVariants as refusal
use Rattle.chain_core.specs.Answers.{IsOutside}
use Rattle.chain_core.specs.declared.error.Error.{Error}
use Rattle.keyless_db.specs.Reading as db
use Rattle.keyless_db.specs.Reading.{AnswersAs, Kept, lost, last_past, locations_refusal, location_refusal, floored_refusal, first_refused}
use Rattle.keyless_db.proofs.LocationLemmas.{le_true, le_fails, lt_true, lt_holds, lt_fails, not_refused, neither, last_of_list, none_refused}
use Rattle.command_text.specs.declared.command.Answer.{Answer}
use Rattle.command_text.specs.declared.command.Answer.TheVariants as answer
use Rattle.list_machine.specs.Operation.{Operation, meaning}
use Rattle.list_machine.specs.Step.{answered}
use Rattle.twin_side.proofs.BatchReads.{Meets}

-- ---- answers

module _ {A : Type 0} (s : State Operation) (shows : A → Answer) where
  -- why it is refused, it is answered
  pub answers_why : (o : Option Refusal) (v : A) (why : Refusal) → o ≡ Some why → (answered s shows (unless_refused o v)).0 ≡ answer.Refused why
  answers_why o v why is = ap (λ (p : Option Refusal). (answered s shows (unless_refused p v)).0) is

  module _ {T : Type 0} (shown : T → A) where
    -- what is read, is answered
    pub answers_ok : (a : Result A Refusal) (r : Result T (Error Mmr)) → AnswersAs shown a r → IfOk r (λ x. shows (shown x) ≡ (answered s shows a).0)
    answers_ok a (Ok x) is = ap (λ (q : Result A Refusal). (answered s shows q).0) (sym is)
    answers_ok a (Err e) is = tt

    -- what nothing refuses fails by the outside alone
    pub answers_err : (o : Option Refusal) (v : A) (r : Result T (Error Mmr)) → o ≡ None → AnswersAs shown (unless_refused o v) r → IfErr r (λ e. IsOutside e)
    answers_err o v (Ok x) none is = tt
    answers_err o v (Err e) none (inl outside) = outside
    answers_err o v (Err e) none (inr refused) = absurd (let never = ap (λ (p : Option Refusal). unless_refused p v) (sym none) ∙ refused.1 in cc)

-- ---- a batch that may be read

module _ {T A : Type 0} (s : State Operation) (shows : A → Answer) (shown : T → A) (r : Result T (Error Mmr)) (may : Bool) (Here : Type 0) (decides : Decides may Here)
    (fit own : Option Refusal) (v : A) (same : Here → fit ≡ own) (answers : Here → fit ≡ None → AnswersAs shown (unless_refused own v) r) where
  abbrev Asked : Result A Refusal
  Asked = if may then unless_refused own v else Err refusal.StaleRead

  asked : Here → Asked ≡ unless_refused own v
  asked here = ap (λ (b : Bool). if b then unless_refused own v else Err refusal.StaleRead) (decides.1 here)

  away : (b : Bool) → may ≡ b → (Here → ⊥) → Asked ≡ Err refusal.StaleRead
  away true is never = absurd (never (decides.0 is))
  away false is never = ap (λ (b : Bool). if b then unless_refused own v else Err refusal.StaleRead) is

  pub meets_read : Meets (λ x. shows (shown x)) r Here fit (answered s shows Asked).0
  meets_read = record {
    stale = λ never. ap (λ (q : Result A Refusal). (answered s shows q).0) (away may refl never);
    unfit = λ here why is. ap (λ (q : Result A Refusal). (answered s shows q).0) (asked here) ∙ answers_why s shows own v why (sym (same here) ∙ is);
    read = λ here fits. subst (λ (q : Result A Refusal). IfOk r (λ x. shows (shown x) ≡ (answered s shows q).0)) (sym (asked here)) (answers_ok s shows shown (unless_refused own v) r (answers here fits));
    fails = λ here fits. answers_err s shows shown own v r (sym (same here) ∙ fits) (answers here fits);
  }

-- ---- what is kept

kept_here : (chain start size l : ℕ) → start ≤ l → chain ≤ size → (nat_le chain l || (nat_le start l && nat_lt l size)) ≡ true
kept_here chain start size l low few = by (nat_le chain l) refl
  where
    by : (b : Bool) → nat_le chain l ≡ b → (nat_le chain l || (nat_le start l && nat_lt l size)) ≡ true
    by true is = rw is refl
    by false is = let below = le_fails chain l is in let e = le_true start l low in let f = lt_true l size (omega (arith, below, few)) in rw (is, e, f) refl

rose : (b : Bool) (o : Option Refusal) (r : Refusal) → (if b then o else Some r) ≡ None → (b ≡ true) × (o ≡ None)
rose true o r is = (refl, is)
rose false o r is = absurd cc

all_from : (low l : ℕ) (ls : List ℕ) → low ≤ l → unordered (l ∷ ls) ≡ None → AllByRecursion (λ x. low ≤ x) (l ∷ ls)
all_from low l [] le so = (le, tt)
all_from low l (k ∷ ls) le so =
    let r = rose (nat_lt l k) (unordered (k ∷ ls)) (refusal.LocationOutOfOrder l k) so in
    let lt = lt_holds l k r.0 in
    (le, all_from low k ls (omega (arith, lt, le)) r.1)

all_weaker : (P Q : ℕ → Type 0) (xs : List ℕ) → ((x : ℕ) → P x → Q x) → AllByRecursion P xs → AllByRecursion Q xs
all_weaker P Q [] give all = tt
all_weaker P Q (x ∷ xs) give all = (give x all.0, all_weaker P Q xs give all.1)

or_assoc : (x y z : Option Refusal) → or_else x (or_else y z) ≡ or_else (or_else x y) z
or_assoc None y z = refl
or_assoc (Some r) y z = refl

-- several locations of a list are refused by its length as by the list
pub many_by_length : (ops : List Operation) (low : ℕ) (why : ℕ → Refusal) (ls : List ℕ) → many_refusal ops low why ls ≡ or_else (locations_refusal (length ops) ls) (first_below low why ls)
many_by_length ops low why ls =
    ap (λ o. or_else (unordered ls) (or_else o (first_below low why ls))) (last_of_list ops ls)
    ∙ or_assoc (unordered ls) (last_past (length ops) ls) (first_below low why ls)

module _ (k : Kept) (floor : ℕ) (low : k.start ≤ floor) (few : k.chain ≤ k.size) where
  none_lost : (l : ℕ) → floor ≤ l → lost k l ≡ None
  none_lost l le = ap (λ b. refuse_if (not b) (refusal.ItemPruned l)) (kept_here k.chain k.start k.size l (omega (arith, low, le)) few)

  from_floor : (l : ℕ) → refuse_if (nat_lt l floor) (refusal.BelowInactivityFloor l) ≡ None → floor ≤ l
  from_floor l fits = lt_fails l floor (not_refused (nat_lt l floor) (refusal.BelowInactivityFloor l) fits)

  pub kept_at : (size l : ℕ) → location_refusal size floor l ≡ None → lost k l ≡ None
  kept_at size l fits = none_lost l (from_floor l (neither (refuse_if (nat_le size l) (refusal.LocationOutOfBounds l size)) (refuse_if (nat_lt l floor) (refusal.BelowInactivityFloor l)) fits).1)

  all_kept : (ls : List ℕ) → unordered ls ≡ None → first_below floor refusal.BelowInactivityFloor ls ≡ None → AllByRecursion (λ l. lost k l ≡ None) ls
  all_kept [] so first = tt
  all_kept (l ∷ ls) so first = all_weaker (λ x. floor ≤ x) (λ x. lost k x ≡ None) (l ∷ ls) none_lost (all_from floor l ls (from_floor l first) so)

  pub kept_each : (size : ℕ) (ls : List ℕ) → floored_refusal size floor ls ≡ None → first_refused (lost k) ls ≡ None
  kept_each size ls fits =
      let r = neither (locations_refusal size ls) (first_below floor refusal.BelowInactivityFloor ls) fits in
      let so = neither (unordered ls) (last_past size ls) r.0 in
      none_refused (lost k) ls (all_kept ls so.0 r.1)

-- ---- a batch's list

module _ (s : State Operation) (reading : Reading Operation) (Here : Type 0) (decides : Decides reading.here Here) (k : Kept) (size floor : ℕ) (size_is : size ≡ length reading.list)
    (floor_is : Here → floor ≡ reading.floor) (low : Here → k.start ≤ reading.floor) (few : Here → k.chain ≤ k.size) where
  low_here : Here → k.start ≤ floor
  low_here here = let a = low here in let b = floor_is here in omega (arith, a, b)

  module _ {T : Type 0} (shown : T → Option (List ℕ)) (r : Result T (Error Mmr)) (l : ℕ) (answers : Here → AnswersAs shown (db.batch_answer meaning reading.list floor k l) r) where
    same_one : Here → location_refusal size floor l ≡ read_refusal reading.list reading.floor refusal.BelowInactivityFloor l
    same_one here = ap (λ n. location_refusal n floor l) size_is ∙ ap (λ n. location_refusal (length reading.list) n l) (floor_is here)

    whole_one : Here → location_refusal size floor l ≡ None
        → db.batch_answer meaning reading.list floor k l ≡ unless_refused (read_refusal reading.list reading.floor refusal.BelowInactivityFloor l) (value_at meaning reading.list l)
    whole_one here fits =
        ap (λ o. unless_refused (or_else (read_refusal reading.list floor refusal.BelowInactivityFloor l) o) (value_at meaning reading.list l)) (kept_at k floor (low_here here) (few here) size l fits)
        ∙ ap (λ o. unless_refused (or_else o None) (value_at meaning reading.list l)) (sym (ap (λ n. location_refusal n floor l) size_is) ∙ fits)
        ∙ ap (λ o. unless_refused o (value_at meaning reading.list l)) (sym (sym (same_one here) ∙ fits))

    pub meets_one : Meets (λ x. answer.Value (shown x)) r Here (location_refusal size floor l) (answered s answer.Value (log.batch_answer meaning reading l)).0
    meets_one =
        meets_read s answer.Value shown r reading.here Here decides (location_refusal size floor l) (read_refusal reading.list reading.floor refusal.BelowInactivityFloor l) (value_at meaning reading.list l) same_one
        (λ here fits. subst (λ (q : Result (Option (List ℕ)) Refusal). AnswersAs shown q r) (whole_one here fits) (answers here))

  module _ {T : Type 0} (shown : T → List (Option (List ℕ))) (r : Result T (Error Mmr)) (ls : List ℕ) (answers : Here → AnswersAs shown (db.batch_many_answer meaning reading.list floor k ls) r) where
    abbrev Values : List (Option (List ℕ))
    Values = map (value_at meaning reading.list) ls

    by_length : (low : ℕ) → many_refusal reading.list low refusal.BelowInactivityFloor ls ≡ floored_refusal (length reading.list) low ls
    by_length low = many_by_length reading.list low refusal.BelowInactivityFloor ls

    same_many : Here → floored_refusal size floor ls ≡ many_refusal reading.list reading.floor refusal.BelowInactivityFloor ls
    same_many here = ap (λ n. floored_refusal n floor ls) size_is ∙ ap (λ n. floored_refusal (length reading.list) n ls) (floor_is here) ∙ sym (by_length reading.floor)

    whole_many : Here → floored_refusal size floor ls ≡ None
        → db.batch_many_answer meaning reading.list floor k ls ≡ unless_refused (many_refusal reading.list reading.floor refusal.BelowInactivityFloor ls) Values
    whole_many here fits =
        ap (λ o. unless_refused (or_else (many_refusal reading.list floor refusal.BelowInactivityFloor ls) o) Values) (kept_each k floor (low_here here) (few here) size ls fits)
        ∙ ap (λ o. unless_refused (or_else o None) Values) (by_length floor ∙ sym (ap (λ n. floored_refusal n floor ls) size_is) ∙ fits)
        ∙ ap (λ o. unless_refused o Values) (sym (sym (same_many here) ∙ fits))

    pub meets_many : Meets (λ x. answer.Values (shown x)) r Here (floored_refusal size floor ls) (answered s answer.Values (log.batch_many_answer meaning reading ls)).0
    meets_many =
        meets_read s answer.Values shown r reading.here Here decides (floored_refusal size floor ls) (many_refusal reading.list reading.floor refusal.BelowInactivityFloor ls) Values same_many
        (λ here fits. subst (λ (q : Result (List (Option (List ℕ))) Refusal). AnswersAs shown q r) (whole_many here fits) (answers here))
