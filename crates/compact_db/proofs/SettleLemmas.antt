-- Calls that make the witnesses durable.
use Rattle.std.proofs.Common.{◌≡◌, ◌⊎◌, inl, inr, ℕ, ◌-◌, ◌^◌, Bool, true, false, List, refl, sym, ◌∙◌, ap, subst, arith}
use Rattle.std.specs.Prelude.{Result, Ok, Err, IfErr, OnOk, OnErr, IsErrOf}
use Rattle.std.specs.Result.{IsErrAnd}
use Rattle.journal_base.specs.Answers.{IsOfVolume, IsOfSize}
use Rattle.journal_base.specs.View.{View, log_of, SameLog, SameButBounds, IsDurable, IsHeld, after_sync}
use Rattle.journal_base.specs.Tickets.{sync_of as journal_sync_of}
use Rattle.journal_base.specs.declared.ticket.SyncTicket.{SyncTicket}
use Rattle.journal_base.specs.declared.ticket.SyncTicket.TheVariants.{Done, Failed}
use Rattle.volume_base.specs.Log.{Log, end_of, Stays}
use Rattle.volume_base.specs.Moments.{Between, Turns, Steps}
use Rattle.volume_base.specs.Volume.{State, OnlyLeft, LogCall, Writes, Changes}
use Rattle.volume_base.specs.declared.error.JournalError.{JournalError}
use Rattle.volume_base.specs.declared.error.JournalError.TheVariants as journal_error
use Rattle.volume_base.specs.declared.error.JournalError.TheVariants.{ItemPruned, ItemOutOfRange, EmptyAppend, SizeOverflow, Corruption, Tree}
use Rattle.volume_base.proofs.CallLemmas.{log_call_then_stays}
use Rattle.volume_base.proofs.JoinLemmas.{writes_joins}
use Rattle.chain_core.specs.declared.error.Error.{Error}
use Rattle.chain_core.specs.declared.error.Error.TheVariants.{Journal, DataCorrupted, StaleBatch, Volume, Memory}
use Rattle.chain_core.specs.declared.error.DataFault.{DataFault}
use Rattle.chain_core.specs.Answers.{IsOutside}
use Rattle.chain_core.specs.Errors.{from_journal}
use Rattle.witness_store.specs.StoreView.{StoreView, IsSettled}
use Rattle.witness_store.specs.declared.witness.Witness.{Witness}
use Rattle.compact_db.specs.DbView.{seen_log, waits, is_uncommitted}
use Rattle.compact_db.specs.Writing.{IsOutsideOrFull, IsSettledLog, Settles, SyncsLog, sync_of, outcome}
use Rattle.compact_db.specs.declared.database.WitnessLog.{WitnessLog}
use Rattle.compact_db.specs.declared.database.WitnessLog.TheVariants.{Open, Import}

-- ---- errors of a journal, as a database's

pub full_is : {F : Type 0} (e : JournalError) → from_journal {F = F} e ≡ Journal SizeOverflow → e ≡ SizeOverflow
full_is (ItemPruned p) is = cc
full_is (ItemOutOfRange p) is = cc
full_is EmptyAppend is = cc
full_is SizeOverflow is = refl
full_is (Corruption p) is = cc
full_is (Tree x) is = cc
full_is journal_error.Volume is = cc
full_is journal_error.Memory is = cc

pub volume_is : {F : Type 0} (e : JournalError) → from_journal {F = F} e ≡ Volume → e ≡ journal_error.Volume
volume_is (ItemPruned p) is = cc
volume_is (ItemOutOfRange p) is = cc
volume_is EmptyAppend is = cc
volume_is SizeOverflow is = cc
volume_is (Corruption p) is = cc
volume_is (Tree x) is = cc
volume_is journal_error.Volume is = refl
volume_is journal_error.Memory is = cc

pub outside_is : (F : Type 0) (e : JournalError) → IsOfVolume e → IsOutside (from_journal {F = F} e)
outside_is F (ItemPruned p) of = let no : false ≡ true = of in cc
outside_is F (ItemOutOfRange p) of = let no : false ≡ true = of in cc
outside_is F EmptyAppend of = let no : false ≡ true = of in cc
outside_is F SizeOverflow of = let no : false ≡ true = of in cc
outside_is F (Corruption p) of = let no : false ≡ true = of in cc
outside_is F (Tree x) of = let no : false ≡ true = of in cc
outside_is F journal_error.Volume of = tt
outside_is F journal_error.Memory of = tt

pub size_is : {F : Type 0} (e : JournalError) → IsOfSize e → IsOutsideOrFull (from_journal {F = F} e)
size_is (ItemPruned p) of = let no : false ≡ true = of in cc
size_is (ItemOutOfRange p) of = let no : false ≡ true = of in cc
size_is EmptyAppend of = let no : false ≡ true = of in cc
size_is SizeOverflow of = inr refl
size_is (Corruption p) of = let no : false ≡ true = of in cc
size_is (Tree x) of = let no : false ≡ true = of in cc
size_is journal_error.Volume of = inl tt
size_is journal_error.Memory of = inl tt

not_full : (e : JournalError) → IsOfVolume e → e ≡ SizeOverflow → ⊥
not_full (ItemPruned p) of is = let no : false ≡ true = of in cc
not_full (ItemOutOfRange p) of is = let no : false ≡ true = of in cc
not_full EmptyAppend of is = let no : false ≡ true = of in cc
not_full SizeOverflow of is = let no : false ≡ true = of in cc
not_full (Corruption p) of is = let no : false ≡ true = of in cc
not_full (Tree x) of is = let no : false ≡ true = of in cc
not_full journal_error.Volume of is = cc
not_full journal_error.Memory of is = cc

-- the answer of a journal's call, passed on
abbrev pub IsPassed : {F U T : Type 0} → Result U JournalError → Result T (Error F) → Type 0
IsPassed (Ok x) (Ok y) = Unit {0}
IsPassed (Ok x) (Err d) = ⊥
IsPassed (Err e) (Ok y) = ⊥
IsPassed (Err e) (Err d) = d ≡ from_journal e

pub passed_volume : {F U T : Type 0} (one : Result U JournalError) (two : Result T (Error F)) → IsPassed one two → IsErrOf two Volume → IsErrOf one journal_error.Volume
passed_volume (Ok x) (Ok y) same is = absurd cc
passed_volume (Ok x) (Err d) same is = absurd same
passed_volume (Err e) (Ok y) same is = absurd same
passed_volume (Err e) (Err d) same is = let here : d ≡ Volume = cc in ap Err (volume_is e (sym same ∙ here))

passed_ok : {F U T : Type 0} (one : Result U JournalError) (two : Result T (Error F)) (P : Type 0) → IsPassed one two → OnOk one P → OnOk two P
passed_ok (Ok x) (Ok y) P same is = is
passed_ok (Ok x) (Err d) P same is = absurd same
passed_ok (Err e) (Ok y) P same is = absurd same
passed_ok (Err e) (Err d) P same is = tt

passed_outside : {F U T : Type 0} (one : Result U JournalError) (two : Result T (Error F)) → IsPassed one two → IfErr one IsOfVolume → IfErr two IsOutsideOrFull
passed_outside (Ok x) (Ok y) same of = tt
passed_outside (Ok x) (Err d) same of = absurd same
passed_outside (Err e) (Ok y) same of = absurd same
passed_outside (Err e) (Err d) same of = inl (subst (λ x. IsOutside x) (sym same) (outside_is _ e of))

passed_full : {F U T : Type 0} (one : Result U JournalError) (two : Result T (Error F)) → IsPassed one two → IfErr one IsOfVolume → IsErrOf two (Journal SizeOverflow) → ⊥
passed_full (Ok x) (Ok y) same of is = cc
passed_full (Ok x) (Err d) same of is = same
passed_full (Err e) (Ok y) same of is = same
passed_full (Err e) (Err d) same of is = let here : d ≡ Journal SizeOverflow = cc in not_full e of (full_is e (sym same ∙ here))

-- a writing call, passed on
pub writes_passed : {F U T : Type 0} (tells : Type 0) (a b : State) (one : Result U JournalError) (two : Result T (Error F)) → IsPassed one two → Writes tells journal_error.Volume a b one → Writes tells Volume a b two
writes_passed tells a b one two same w = record {
  later = w.later;
  still = w.still;
  reads = w.reads;
  faults = w.faults;
  failed = λ is. w.failed (passed_volume one two same is);
  kept = passed_ok one two (b.faults ≡ a.faults) same w.kept;
  steady = w.steady;
}

not_stale : {F : Type 0} (e : JournalError) → from_journal {F = F} e ≡ StaleBatch → ⊥
not_stale (ItemPruned p) is = cc
not_stale (ItemOutOfRange p) is = cc
not_stale EmptyAppend is = cc
not_stale SizeOverflow is = cc
not_stale (Corruption p) is = cc
not_stale (Tree x) is = cc
not_stale journal_error.Volume is = cc
not_stale journal_error.Memory is = cc

-- an error of a journal, as a database's, is no stale batch
pub never_stale : {F T : Type 0} (e : JournalError) (r : Result T (Error F)) → IsErrAnd r (λ d. d ≡ from_journal e) → IsErrOf r StaleBatch → ⊥
never_stale e (Ok x) is stale = is
never_stale e (Err d) is stale = let here : d ≡ StaleBatch = cc in not_stale e (sym is ∙ here)

pub full_cause : {F T : Type 0} (e : JournalError) (r : Result T (Error F)) → IsErrAnd r (λ d. d ≡ from_journal e) → IsErrOf r (Journal SizeOverflow) → e ≡ SizeOverflow
full_cause e (Ok x) is full = absurd is
full_cause e (Err d) is full = let here : d ≡ Journal SizeOverflow = cc in full_is e (sym is ∙ here)

-- an error that is passed on
pub same_err : {E T : Type 0} (e x : E) (r : Result T E) → IsErrAnd r (λ d. d ≡ e) → IsErrOf r x → e ≡ x
same_err e x (Ok y) is here = absurd is
same_err e x (Err d) is here = let at : d ≡ x = cc in sym is ∙ at

pub passed_each : {E T : Type 0} (e : E) (P : E → Type 0) (r : Result T E) → IsErrAnd r (λ d. d ≡ e) → P e → IfErr r P
passed_each e P (Ok y) is p = absurd is
passed_each e P (Err d) is p = subst P (sym is) p

-- an apply that the tree refuses is no full log
pub refused_not_full : {F : Type 0} (e : Error F) → (e ≡ StaleBatch) ⊎ (e ≡ Memory) → e ≡ Journal SizeOverflow → ⊥
refused_not_full {F} e (inl is) full = let x : Error F = StaleBatch in let bad : x ≡ Journal SizeOverflow = sym is ∙ full in cc
refused_not_full {F} e (inr is) full = let x : Error F = Memory in let bad : x ≡ Journal SizeOverflow = sym is ∙ full in cc

pub refused_as : {F : Type 0} (e : Error F) → (e ≡ StaleBatch) ⊎ (e ≡ Memory) → (e ≡ StaleBatch) ⊎ IsOutsideOrFull e
refused_as e (inl is) = inl is
refused_as e (inr is) = inr (subst (λ x. IsOutsideOrFull x) (sym is) (inl tt))

-- ---- logs of a database

pub failed_open : {F D : Type 0} (log : WitnessLog F D) → (seen_log log).failed ≡ true → waits log ≡ false
failed_open (Open store) is = refl
failed_open (Import cfg) is = absurd cc

pub committed_open : {F D : Type 0} (log : WitnessLog F D) → is_uncommitted log ≡ false → waits log ≡ false
committed_open (Open store) is = refl
committed_open (Import cfg) is = absurd cc

-- the error that `?` passes on
pub passed_err : {F T : Type 0} (U : Type 0) (e : JournalError) (r : Result T (Error F)) → IsErrAnd r (λ d. d ≡ from_journal e) → IsPassed (let one : Result U JournalError = Err e in one) r
passed_err U e (Ok x) is = absurd is
passed_err U e (Err d) is = is

pub kept_err : {F T : Type 0} (e : JournalError) (r : Result T (Error F)) → IsErrAnd r (λ d. d ≡ from_journal e) → e ≡ journal_error.Volume → IsErrOf r Volume
kept_err e (Ok x) is kept = absurd is
kept_err e (Err d) is kept = let here : d ≡ from_journal journal_error.Volume = is ∙ ap (λ x. from_journal x) kept in ap Err here

module _ {F D : Type 0} (tells : Type 0) (spelling : D → List ℕ) (log : WitnessLog F D) (tip : Witness F D) (a b : State)
    (call : tells → LogCall (seen_log log).name (Settles spelling log tip a) a b) where
  waits_then : (l : WitnessLog F D) → (waits l ≡ false → ⊥) → waits l ≡ true
  waits_then (Open store) never = absurd (never refl)
  waits_then (Import cfg) never = refl

  -- the log isn't opened
  pub syncs_not : {U T : Type 0} (e : JournalError) (r : Result T (Error F)) → IsErrAnd r (λ d. d ≡ from_journal e) → (waits log ≡ false → ⊥)
      → (tells → e ≡ SizeOverflow → (waits log ≡ true) × (end_of (log_of (seen_log log) a) ≡ 2 ^ 64 - 1)) → (tells → e ≡ SizeOverflow → b.clock ≡ a.clock)
      → IsOfSize e → Writes {T = U} tells journal_error.Volume a b (Err e) → SyncsLog tells spelling log tip a b r
  syncs_not e (Ok x) is waiting full unwritten of w = absurd is
  syncs_not {U} e (Err d) is waiting full unwritten of w = record {
    call = call;
    contents = λ opened told. absurd (waiting opened);
    full = λ told error.
        let here : d ≡ Journal SizeOverflow = cc in
        let there = full_is e (sym is ∙ here) in
        let both = full told there in
        (both.0, both.1, unwritten told there);
    waiting = λ error. waits_then log waiting;
    errors = subst (λ x. IsOutsideOrFull x) (sym is) (size_is e of);
    writes = writes_passed {U = U} tells a b (Err e) (Err d) is w;
  }

  -- it is opened, and then synced
  pub syncs_then : {S U T : Type 0} (answer : S) (first : View (Unit {0})) (c : State) (one : Result U JournalError) (two : Result T (Error F)) → IsPassed one two
      → SameButBounds (seen_log log) first → (seen_log log).failed ≡ false → Writes {T = S} tells journal_error.Volume a b (Ok answer) → (waits log ≡ false → b ≡ a)
      → (tells → LogCall first.name Stays b c) → (tells → SameLog first b c) → IfErr one IsOfVolume → (first.failed ≡ false → Writes tells journal_error.Volume b c one)
      → SyncsLog tells spelling log tip a c two
  syncs_then answer first c one two same but fresh opens idle stays contents of second =
      let named : first.name ≡ (seen_log log).name = ap (λ (v : View (Unit {0})). v.name) but in
      let alive : first.failed ≡ false = ap (λ (v : View (Unit {0})). v.failed) but ∙ fresh in
      record {
        call = λ told. log_call_then_stays (seen_log log).name (Settles spelling log tip a) a b c (call told) (subst (λ (n : List ℕ). LogCall n Stays b c) named (stays told));
        contents = λ opened told. subst (λ (s : State). SameLog (seen_log log) s c) (idle opened) (subst (λ (n : List ℕ). c.log n ≡ b.log n) named (contents told));
        full = λ told error. absurd (passed_full one two same of error);
        waiting = λ error. absurd (passed_full one two same of error);
        errors = passed_outside one two same of;
        writes = writes_joins tells journal_error.Volume journal_error.Volume Volume a b c answer one two opens (second alive) (passed_volume one two same) (passed_ok one two (c.faults ≡ b.faults) same);
      }

-- ---- what stays behind a call that opens the log

pub log_later : (view first : View (Unit {0})) (b c : State) → first.name ≡ view.name → SameLog first b c → log_of view c ≡ log_of view b
log_later view first b c named stays = ap (λ (n : List ℕ). c.log n) (sym named) ∙ stays ∙ ap (λ (n : List ℕ). b.log n) named

pub durable_as : (view first : View (Unit {0})) (c : State) → first.name ≡ view.name → IsDurable first c → IsDurable view c
durable_as view first c named is = subst (λ (n : List ℕ). OnlyLeft (c.log_left c.clock n) (c.log n)) named is

pub settled_later : {F D : Type 0} (log : WitnessLog F D) (store : StoreView) (a b : State) → (waits log ≡ false → b ≡ a)
    → (waits log ≡ false → (store.log ≡ seen_log log) × (store.uncommitted ≡ is_uncommitted log)) → (waits log ≡ true → store.uncommitted ≡ true)
    → IsSettledLog log a → IsSettled store b
settled_later (Open old) store a b idle same made settled is =
    let k = same refl in
    subst (λ (s : State). IsDurable store.log s) (sym (idle refl))
    (subst (λ (v : View (Unit {0})). IsDurable v a) (sym k.0) (settled (sym k.1 ∙ is)))
settled_later (Import cfg) store a b idle same made settled is = let k = made refl in absurd cc

-- the bounds of a log that is opened
pub bounds_opened : {F D : Type 0} (log : WitnessLog F D) (store : View (Unit {0})) (a b : State) → (waits log ≡ false → b ≡ a) → (waits log ≡ false → store ≡ seen_log log)
    → (waits log ≡ true → IsHeld store b) → (waits log ≡ false → IsHeld (seen_log log) a) → IsHeld store b
bounds_opened (Open old) store a b idle same made held =
    subst (λ (s : State). IsHeld store s) (sym (idle refl)) (subst (λ (v : View (Unit {0})). IsHeld v a) (sym (same refl)) (held refl))
bounds_opened (Import cfg) store a b idle same made held = made refl

-- and of one that stays, whether a failed sync is kept or not
pub bounds_stay : (view : View (Unit {0})) (failed : Bool) (b c : State) → SameLog view b c → IsHeld view b → IsHeld (after_sync view failed) c
bounds_stay view failed b c stays held = record {
  start_is = held.start_is ∙ ap (λ (l : Log). l.start) (sym stays);
  end_is = held.end_is ∙ ap end_of (sym stays);
}

-- ---- other calls

pub err_each : {F T : Type 0} (r : Result T (Error F)) (e : JournalError) (P : Error F → Type 0) → IsErrAnd r (λ d. d ≡ from_journal e) → P (from_journal e) → IfErr r P
err_each (Ok x) e P is p = tt
err_each (Err d) e P is p = subst P (sym is) p

pub changes_passed : {F U T : Type 0} (tells : Type 0) (a b : State) (one : Result U JournalError) (two : Result T (Error F)) → IsPassed one two → Changes tells journal_error.Volume a b one → Changes tells Volume a b two
changes_passed tells a b one two same w = record {
  later = w.later;
  still = w.still;
  faults = w.faults;
  failed = λ is. w.failed (passed_volume one two same is);
  kept = passed_ok one two (b.faults ≡ a.faults) same w.kept;
  reads = w.reads;
  steady = w.steady;
}

-- nothing was called
pub changes_none : {F T : Type 0} (tells : Type 0) (a : State) (r : Result T (Error F)) → (IsErrOf r Volume → ⊥) → Changes tells Volume a a r
changes_none {F} {T} tells a r never = record {
  later = omega arith;
  still = λ told same. record { logs = λ name. refl; maps = λ name. refl };
  faults = omega arith;
  failed = λ is. absurd (never is);
  kept = kept_same r;
  reads = omega arith;
  steady = λ steady. record { steady = steady; faults = refl };
}
  where
    kept_same : (x : Result T (Error F)) → OnOk x (a.faults ≡ a.faults)
    kept_same (Ok x) = refl
    kept_same (Err e) = tt

no_fault : {F : Type 0} (e : JournalError) (f : DataFault) → from_journal {F = F} e ≡ DataCorrupted f → ⊥
no_fault (ItemPruned p) f is = cc
no_fault (ItemOutOfRange p) f is = cc
no_fault EmptyAppend f is = cc
no_fault SizeOverflow f is = cc
no_fault (Corruption p) f is = cc
no_fault (Tree x) f is = cc
no_fault journal_error.Volume f is = cc
no_fault journal_error.Memory f is = cc

pub fault_not : {F T : Type 0} (r : Result T (Error F)) (e : JournalError) (f : DataFault) → IsErrAnd r (λ d. d ≡ from_journal e) → IsErrOf r (DataCorrupted f) → ⊥
fault_not (Ok x) e f same is = same
fault_not (Err d) e f same is = let here : d ≡ DataCorrupted f = cc in no_fault e f (sym same ∙ here)

-- ---- tickets

pub outcome_err : {F T : Type 0} (r : Result (T × SyncTicket) (Error F)) (P : Error F → Type 0) → IsErrAnd r P → IsErrAnd (outcome r) P
outcome_err (Ok x) P is = absurd is
outcome_err (Err d) P is = is

pub ticket_passed : (F : Type 0) (ticket : SyncTicket) → IsPassed {F = F} (journal_sync_of ticket) (sync_of ticket)
ticket_passed F Done = tt
ticket_passed F Failed = refl

pub ticket_of : (ticket : SyncTicket) → IfErr (journal_sync_of ticket) IsOfVolume
ticket_of Done = tt
ticket_of Failed = refl

-- ---- the same of what is the same

pub syncs_at : {F D T : Type 0} (tells : Type 0) (spelling : D → List ℕ) (log log' : WitnessLog F D) (tip tip' : Witness F D) (a b : State) (r : Result T (Error F)) → log ≡ log' → tip ≡ tip'
    → ((seen_log log).failed ≡ false → SyncsLog tells spelling log tip a b r) → (seen_log log').failed ≡ false → SyncsLog tells spelling log' tip' a b r
syncs_at tells spelling log log' tip tip' a b r same too is = rw (← same, ← too) is

-- ---- turns

passed_bad : {F U T : Type 0} (one : Result U JournalError) (two : Result T (Error F)) (P : Type 0) → IsPassed one two → OnErr one P → OnErr two P
passed_bad (Ok x) (Ok y) P same is = tt
passed_bad (Ok x) (Err d) P same is = absurd same
passed_bad (Err e) (Ok y) P same is = absurd same
passed_bad (Err e) (Err d) P same is = is

pub steps_passed : {A F U T : Type 0} (left : State → ℕ → A → Type 0) (P Q : A → Type 0) (a b : State) (one : Result U JournalError) (two : Result T (Error F)) → IsPassed one two
    → Steps left P Q a b one → Steps left P Q a b two
steps_passed left P Q a b one two same s = record {
  past = s.past;
  ok = passed_ok one two (Turns (left b) a.clock b.clock P Q) same s.ok;
  err = passed_bad one two (Between (left b) a.clock b.clock P ⊎ Turns (left b) a.clock b.clock P Q) same s.err;
}
