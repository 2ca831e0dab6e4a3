-- What a read of a batch answers, by what the batch's own read says.
use Rattle.std.proofs.Common.{◌≡◌, ◌⊎◌, inl, inr, ℕ, List, [], ◌∷◌, Bool, true, false, Option, Some, None, Ok, Err, refl, sym, ◌∙◌, ap, subst}
use Rattle.std.specs.Prelude.{◌↔◌, Result, IfOk, IfErr, nat_le, nat_lt, Contains, if◌then◌else◌}
use Rattle.std.proofs.lemmas.Option.{none-some, same_Some}
use Rattle.volume_base.specs.Volume.{State, Reads}
use Rattle.volume_base.specs.declared.error.JournalError.{JournalError}
use Rattle.volume_base.specs.declared.error.JournalError.TheVariants as journal
use Rattle.volume_base.proofs.ReadLemmas.{only_read_none, reads_of, reads_joins}
use Rattle.journal_base.specs.Items.{Items}
use Rattle.tree_store.specs.declared.error.Error.TheVariants as tree
use Rattle.tree_shape.specs.declared.mmr.Mmr.{Mmr}
use Rattle.log_model.specs.Reads.{or_else, refuse_if, unordered, first_below}
use Rattle.log_model.specs.declared.refusal.Refusal.{Refusal}
use Rattle.log_model.specs.declared.refusal.Refusal.TheVariants as refusal
use Rattle.chain_core.specs.Answers.{IsOutside, IsRefusedFor, read_refusal_of}
use Rattle.chain_core.specs.Errors.{from_journal}
use Rattle.chain_core.specs.declared.error.Error.{Error}
use Rattle.chain_core.specs.declared.error.Error.TheVariants as db_error
use Rattle.keyless_db.specs.Reading.{IsChainFault, IsReadFault, last_past, location_refusal, floored_refusal}
use Rattle.command_text.specs.declared.command.Answer.{Answer}
use Rattle.command_text.specs.declared.command.Answer.TheVariants as answer
use Rattle.twin_side.specs.ReadRefusals.{unread_of, unread_or, batch_read}
use Rattle.twin_side.specs.Unread.{IsReadRefusedBy}

-- ---- refusals that bounds tell

-- it is for the order of locations, or for their bounds
abbrev pub IsOfPlaces : Refusal → Type 0
IsOfPlaces (refusal.LocationOutOfOrder l k) = Unit {0}
IsOfPlaces (refusal.LocationOutOfBounds l n) = Unit {0}
IsOfPlaces (refusal.BelowInactivityFloor l) = Unit {0}
IsOfPlaces _ = ⊥

late : (why other : Refusal) → Some other ≡ Some why → (IsOfPlaces other → ⊥) → IsOfPlaces why → ⊥
late why other is never of = never (subst IsOfPlaces (sym (same_Some other why is)) of)

-- such a refusal is told as one
pub told : (why : Refusal) → IsOfPlaces why → (e : Error Mmr) → read_refusal_of e ≡ Some why → unread_of e ≡ Some why
told why of db_error.StaleRead is = is
told why of (db_error.LocationOutOfOrder l k) is = is
told why of (db_error.LocationOutOfBounds l n) is = is
told why of (db_error.BelowInactivityFloor l) is = is
told why of (db_error.Journal (journal.ItemPruned l)) is = absurd (late why (refusal.ItemPruned l) is (λ x. x) of)
told why of (db_error.Merkle (tree.RangeOutOfBounds l)) is = absurd (late why (refusal.RangeOutOfBounds l) is (λ x. x) of)
told why of (db_error.HistoricalFloorPruned n) is = absurd (late why (refusal.HistoricalFloorPruned n) is (λ x. x) of)
told why of (db_error.PruneBeyondMinRequired l f) is = absurd (late why (refusal.PruneBeyondMinRequired l f) is (λ x. x) of)
told why of _ is = absurd (none-some why is)

module _ (why : Refusal) where
  refuse_of : (b : Bool) (r : Refusal) → IsOfPlaces r → refuse_if b r ≡ Some why → IsOfPlaces why
  refuse_of true r of is = subst IsOfPlaces (same_Some r why is) of
  refuse_of false r of is = absurd (none-some why is)

  or_of : (x y : Option Refusal) → (x ≡ Some why → IsOfPlaces why) → (y ≡ Some why → IsOfPlaces why) → or_else x y ≡ Some why → IsOfPlaces why
  or_of None y one two is = two is
  or_of (Some r) y one two is = one is

  order_of : (b : Bool) (o : Option Refusal) (r : Refusal) → IsOfPlaces r → (o ≡ Some why → IsOfPlaces why) → (if b then o else Some r) ≡ Some why → IsOfPlaces why
  order_of true o r of rest is = rest is
  order_of false o r of rest is = subst IsOfPlaces (same_Some r why is) of

  unordered_of : (ls : List ℕ) → unordered ls ≡ Some why → IsOfPlaces why
  unordered_of [] is = absurd (none-some why is)
  unordered_of (l ∷ []) is = absurd (none-some why is)
  unordered_of (l ∷ k ∷ ls) is = order_of (nat_lt l k) (unordered (k ∷ ls)) (refusal.LocationOutOfOrder l k) tt (unordered_of (k ∷ ls)) is

  last_of : (size : ℕ) (ls : List ℕ) → last_past size ls ≡ Some why → IsOfPlaces why
  last_of size [] is = absurd (none-some why is)
  last_of size (l ∷ []) is = refuse_of (nat_le size l) (refusal.LocationOutOfBounds l size) tt is
  last_of size (l ∷ k ∷ ls) is = last_of size (k ∷ ls) is

  below_of : (floor : ℕ) (ls : List ℕ) → first_below floor refusal.BelowInactivityFloor ls ≡ Some why → IsOfPlaces why
  below_of floor [] is = absurd (none-some why is)
  below_of floor (l ∷ ls) is = refuse_of (nat_lt l floor) (refusal.BelowInactivityFloor l) tt is

  pub location_of : (size floor l : ℕ) → location_refusal size floor l ≡ Some why → IsOfPlaces why
  location_of size floor l is =
      or_of (refuse_if (nat_le size l) (refusal.LocationOutOfBounds l size)) (refuse_if (nat_lt l floor) (refusal.BelowInactivityFloor l))
      (refuse_of (nat_le size l) (refusal.LocationOutOfBounds l size) tt) (refuse_of (nat_lt l floor) (refusal.BelowInactivityFloor l) tt) is

  pub locations_of : (size floor : ℕ) (ls : List ℕ) → floored_refusal size floor ls ≡ Some why → IsOfPlaces why
  locations_of size floor ls is =
      or_of (or_else (unordered ls) (last_past size ls)) (first_below floor refusal.BelowInactivityFloor ls)
      (or_of (unordered ls) (last_past size ls) (unordered_of ls) (last_of size ls)) (below_of floor ls) is

-- ---- errors of a read

journal_read : (cause : JournalError) → unread_of {F = Mmr} (from_journal cause) ≡ None
journal_read journal.Volume = refl
journal_read journal.Memory = refl
journal_read _ = refl

module _ {Op : Type 0} (tells : Type 0) (items : Items Op) (size : ℕ) where
  read_fault : (l : ℕ) (e : Error Mmr) → IsReadFault tells items l e → unread_of e ≡ None
  read_fault l e fault = ap unread_of fault.is ∙ journal_read fault.cause

  chain_fault : (kept : Option Op) (l : ℕ) (e : Error Mmr) → IsChainFault tells items size kept l e → unread_of e ≡ None
  chain_fault kept l e (inl none) = ap unread_of none.2
  chain_fault kept l e (inr fault) = read_fault l e fault

  pub chain_faults : {T : Type 0} (kept : Option Op) (l : ℕ) (r : Result T (Error Mmr)) → IfErr r (IsChainFault tells items size kept l) → IfErr r (λ e. unread_of e ≡ None)
  chain_faults kept l (Ok x) fault = tt
  chain_faults kept l (Err e) fault = chain_fault kept l e fault

  pub chain_faults_at : {T : Type 0} (kept : ℕ → Option Op) (ls : List ℕ) (r : Result T (Error Mmr))
      → IfErr r (λ e. (l : ℕ) × Contains ls l × IsChainFault tells items size (kept l) l e) → IfErr r (λ e. unread_of e ≡ None)
  chain_faults_at kept ls (Ok x) fault = tt
  chain_faults_at kept ls (Err e) fault = chain_fault (kept fault.0) fault.0 e fault.2

-- ---- for which reasons an answer is a refusal

abbrev pub RefusedFor : Refusal → Result Answer (Error Mmr)
RefusedFor why = Ok (answer.Refused why)

-- it is one exactly for these
abbrev pub RefusesSo : (Refusal → Type 0) → Result Answer (Error Mmr) → Type 0
RefusesSo unread q = (why : Refusal) → (q ≡ RefusedFor why) ↔ unread why

same_answer : (a : Answer) (why : Refusal) → Ok a ≡ RefusedFor why → a ≡ answer.Refused why
same_answer a why e = cc

same_refusal : (r why : Refusal) → RefusedFor r ≡ RefusedFor why → r ≡ why
same_refusal r why e = cc

refuses_one : (unread : Refusal → Type 0) (q : Result Answer (Error Mmr)) (r : Refusal) → q ≡ RefusedFor r → ((why : Refusal) → r ≡ why → unread why) → ((why : Refusal) → unread why → r ≡ why) → RefusesSo unread q
refuses_one unread q r is to from why = (λ e. to why (same_refusal r why (sym is ∙ e)), λ u. is ∙ ap RefusedFor (from why u))

module _ (unread : Refusal → Type 0) where
  -- an answer, and an error
  pub so_ok : (q : Result Answer (Error Mmr)) → RefusesSo unread q → IfOk q (λ a. (why : Refusal) → (a ≡ answer.Refused why) ↔ unread why)
  so_ok (Ok a) so = λ why. (λ e. (so why).0 (ap Ok e), λ u. same_answer a why ((so why).1 u))
  so_ok (Err e) so = tt

  pub so_err : (q : Result Answer (Error Mmr)) → RefusesSo unread q → IfErr q (λ e. (why : Refusal) → unread why → e ≡ db_error.Memory)
  so_err (Ok a) so = tt
  so_err (Err e) so = λ why u. absurd (let never = (so why).1 u in cc)

module _ (Here : Type 0) (fit : Option Refusal) where
  stale_only : (Here → ⊥) → (why : Refusal) → IsReadRefusedBy Here fit why → refusal.StaleRead ≡ why
  stale_only away why (inl at) = sym at.1
  stale_only away why (inr at) = absurd (away at.0)

  unfit_only : Here → (r : Refusal) → fit ≡ Some r → (why : Refusal) → IsReadRefusedBy Here fit why → r ≡ why
  unfit_only here r is why (inl at) = absurd (at.0 here)
  unfit_only here r is why (inr at) = same_Some r why (sym is ∙ at.1)

  never_unfit : Here → fit ≡ None → (why : Refusal) → IsReadRefusedBy Here fit why → ⊥
  never_unfit here is why (inl at) = at.0 here
  never_unfit here is why (inr at) = none-some why (sym is ∙ at.1)

-- ---- how a read ends

module _ {T : Type 0} (r : Result T (Error Mmr)) (Here Same : Type 0) (fit : Option Refusal) where
  -- the log stands where the batch can't be read
  pub record IsStale : Type 0 where
    pub away : Here → ⊥
    pub is : r ≡ Err db_error.StaleRead
    pub same : Same

  -- a location can't be read
  pub record IsUnfit : Type 0 where
    pub here : Here
    pub why : Refusal
    pub unfit : fit ≡ Some why
    pub error : Error Mmr
    pub is : r ≡ Err error
    pub told : unread_of error ≡ Some why
    pub same : Same

  -- it is read, or fails
  pub record IsFit : Type 0 where
    pub here : Here
    pub fits : fit ≡ None
    pub errors : IfErr r (λ e. unread_of e ≡ None)

  abbrev pub Ends : Type 0
  Ends = IsStale ⊎ (IsUnfit ⊎ IsFit)

  refused_as : (why : Refusal) → IsOfPlaces why → (q : Result T (Error Mmr)) → r ≡ q → IsRefusedFor why q → (e : Error Mmr) × (r ≡ Err e) × (unread_of e ≡ Some why)
  refused_as why of (Ok x) at is = absurd is
  refused_as why of (Err e) at is = (e, at, told why of e is)

  pub ends : (Here ⊎ (Here → ⊥)) → ((Here → ⊥) → (r ≡ Err db_error.StaleRead) × Same) → ((why : Refusal) → fit ≡ Some why → IsOfPlaces why)
      → (Here → (why : Refusal) → fit ≡ Some why → IsRefusedFor why r × Same) → (Here → fit ≡ None → IfErr r (λ e. unread_of e ≡ None)) → Ends
  ends (inr away) stale places unfit fault = let s = stale away in inl (record { away = away; is = s.0; same = s.1 })
  ends (inl here) stale places unfit fault = by fit refl
    where
      by : (o : Option Refusal) → fit ≡ o → Ends
      by None is = inr (inr (record { here = here; fits = is; errors = fault here is }))
      by (Some why) is =
          let u = unfit here why is in
          let e = refused_as why (places why is) r refl u.0 in
          inr (inl (record { here = here; why = why; unfit = is; error = e.0; is = e.1; told = e.2; same = u.1 }))

module _ {X : Type 0} (target : X → Answer) where
  -- of each it is answered so, or it fails by the outside alone
  abbrev pub AnswersEach : Result Answer (Error Mmr) → Type 0
  AnswersEach q = IfOk q (λ b. (x : X) → b ≡ target x) × IfErr q (λ e. (x : X) → IsOutside e)

  answered_as : (q : Result Answer (Error Mmr)) (a : Answer) → q ≡ Ok a → ((x : X) → a ≡ target x) → AnswersEach q
  answered_as (Ok b) a is same = ((λ x. let e : b ≡ a = cc in e ∙ same x), tt)
  answered_as (Err e) a is same = absurd (cc)

module _ {T : Type 0} (shown : T → Answer) where
  read_err : (r : Result T (Error Mmr)) (e : Error Mmr) (why : Refusal) → r ≡ Err e → unread_of e ≡ Some why → batch_read shown r ≡ Ok (answer.Refused why)
  read_err r e why is known = ap (batch_read shown) is ∙ ap (unread_or e) known

  -- a read that fails, fails so
  passed_err : (e : Error Mmr) → unread_of e ≡ None → batch_read shown (Err e) ≡ Err e
  passed_err e none = ap (unread_or e) none

  -- ---- the volume

  module _ (tells : Type 0) (old new : State) where
    reads_refused : new ≡ old → (q : Result Answer (Error Mmr)) (why : Refusal) → q ≡ Ok (answer.Refused why) → Reads tells db_error.Volume old new q
    reads_refused same q why is =
        subst (λ (b : State). Reads tells db_error.Volume old b q) (sym same)
        (reads_of tells db_error.Volume old old q (only_read_none tells old) (λ at. let never = sym is ∙ at in cc))

    reads_passed : (p : Result T (Error Mmr)) → IfErr p (λ e. unread_of e ≡ None) → Reads tells db_error.Volume old new p → Reads tells db_error.Volume old new (batch_read shown p)
    reads_passed (Ok x) errors reads = reads_joins tells db_error.Volume old old new (Ok x) (Ok (shown x)) (only_read_none tells old) reads (λ at. absurd (cc)) reads.kept
    reads_passed (Err e) none reads =
        subst (Reads tells db_error.Volume old new) (sym (passed_err e none))
        (reads_joins tells db_error.Volume old old new (Err e) (Err e) (only_read_none tells old) reads (λ at. let same : e ≡ db_error.Volume = cc in ap Err same) tt)

    pub read_reads : (r : Result T (Error Mmr)) (Here Same : Type 0) (fit : Option Refusal) → (Same → new ≡ old) → Ends r Here Same fit → Reads tells db_error.Volume old new r
        → Reads tells db_error.Volume old new (batch_read shown r)
    read_reads r Here Same fit still (inl s) reads = reads_refused (still s.same) (batch_read shown r) refusal.StaleRead (read_err r db_error.StaleRead refusal.StaleRead s.is refl)
    read_reads r Here Same fit still (inr (inl u)) reads = reads_refused (still u.same) (batch_read shown r) u.why (read_err r u.error u.why u.is u.told)
    read_reads r Here Same fit still (inr (inr f)) reads = reads_passed r f.errors reads

  -- ---- a refusal

  -- what is read is no refusal
  abbrev pub IsShown : Type 0
  IsShown = (x : T) (why : Refusal) → shown x ≡ answer.Refused why → ⊥

  module _ (never : IsShown) (Same : Type 0) where
    stays_so : (q : Result Answer (Error Mmr)) → Same → IfOk q (λ a. (why : Refusal) → a ≡ answer.Refused why → Same)
    stays_so (Ok a) same = λ why is. same
    stays_so (Err e) same = tt

    passed_stays : (p : Result T (Error Mmr)) → IfErr p (λ e. unread_of e ≡ None) → IfOk (batch_read shown p) (λ a. (why : Refusal) → a ≡ answer.Refused why → Same)
    passed_stays (Ok x) errors = λ why is. absurd (never x why is)
    passed_stays (Err e) none = subst (λ (q : Result Answer (Error Mmr)). IfOk q (λ a. (why : Refusal) → a ≡ answer.Refused why → Same)) (sym (passed_err e none)) tt

    pub read_refused : (r : Result T (Error Mmr)) (Here : Type 0) (fit : Option Refusal) → Ends r Here Same fit → IfOk (batch_read shown r) (λ a. (why : Refusal) → a ≡ answer.Refused why → Same)
    read_refused r Here fit (inl s) = stays_so (batch_read shown r) s.same
    read_refused r Here fit (inr (inl u)) = stays_so (batch_read shown r) u.same
    read_refused r Here fit (inr (inr f)) = passed_stays r f.errors

  -- ---- what memory tells

  module _ (never : IsShown) where
    passed_known : (unread : Refusal → Type 0) → ((why : Refusal) → unread why → ⊥) → (p : Result T (Error Mmr)) → IfErr p (λ e. unread_of e ≡ None) → RefusesSo unread (batch_read shown p)
    passed_known unread not (Ok x) errors why = (λ e. absurd (never x why (same_answer (shown x) why e)), λ u. absurd (not why u))
    passed_known unread not (Err e) none why = (λ at. absurd (let so = sym (passed_err e none) ∙ at in cc), λ u. absurd (not why u))

    pub read_known : (r : Result T (Error Mmr)) (Here Same : Type 0) (fit : Option Refusal) → Ends r Here Same fit → RefusesSo (λ why. IsReadRefusedBy Here fit why) (batch_read shown r)
    read_known r Here Same fit (inl s) =
        refuses_one (λ why. IsReadRefusedBy Here fit why) (batch_read shown r) refusal.StaleRead (read_err r db_error.StaleRead refusal.StaleRead s.is refl)
        (λ why e. inl (s.away, sym e)) (stale_only Here fit s.away)
    read_known r Here Same fit (inr (inl u)) =
        refuses_one (λ why. IsReadRefusedBy Here fit why) (batch_read shown r) u.why (read_err r u.error u.why u.is u.told)
        (λ why e. inr (u.here, u.unfit ∙ ap Some e)) (unfit_only Here fit u.here u.why u.unfit)
    read_known r Here Same fit (inr (inr f)) = passed_known (λ why. IsReadRefusedBy Here fit why) (never_unfit Here fit f.here f.fits) r f.errors

  -- ---- of a good state

  -- this is what is to be answered: a refusal, or what is read; and nothing else than the outside fails
  pub record Meets (r : Result T (Error Mmr)) (Here : Type 0) (fit : Option Refusal) (target : Answer) : Type 0 where
    pub stale : (Here → ⊥) → target ≡ answer.Refused refusal.StaleRead
    pub unfit : Here → (why : Refusal) → fit ≡ Some why → target ≡ answer.Refused why
    pub read : Here → fit ≡ None → IfOk r (λ x. shown x ≡ target)
    pub fails : Here → fit ≡ None → IfErr r (λ e. IsOutside e)

  module _ {X : Type 0} (target : X → Answer) where
    passed_as : (p : Result T (Error Mmr)) → IfErr p (λ e. unread_of e ≡ None) → ((x : X) → IfOk p (λ y. shown y ≡ target x)) → ((x : X) → IfErr p (λ e. IsOutside e))
        → AnswersEach target (batch_read shown p)
    passed_as (Ok y) errors read fails = (read, tt)
    passed_as (Err e) none read fails = subst (AnswersEach target) (sym (passed_err e none)) (tt, fails)

    pub read_answers : (r : Result T (Error Mmr)) (Here Same : Type 0) (fit : Option Refusal) → ((x : X) → Meets r Here fit (target x)) → Ends r Here Same fit → AnswersEach target (batch_read shown r)
    read_answers r Here Same fit good (inl s) =
        answered_as target (batch_read shown r) (answer.Refused refusal.StaleRead) (read_err r db_error.StaleRead refusal.StaleRead s.is refl) (λ x. sym ((good x).stale s.away))
    read_answers r Here Same fit good (inr (inl u)) =
        answered_as target (batch_read shown r) (answer.Refused u.why) (read_err r u.error u.why u.is u.told) (λ x. sym ((good x).unfit u.here u.why u.unfit))
    read_answers r Here Same fit good (inr (inr f)) = passed_as r f.errors (λ x. (good x).read f.here f.fits) (λ x. (good x).fails f.here f.fits)
