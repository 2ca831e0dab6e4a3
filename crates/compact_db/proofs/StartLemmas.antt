-- How a database is opened from its log, from call to call.
use Rattle.std.proofs.Common.{◌≡◌, ◌⊎◌, inl, inr, ℕ, ◌+◌, ◌-◌, ◌<◌, List, length, map, take, drop, Option, Some, None, refl, sym, ◌∙◌, ap, subst, arith}
use Rattle.std.specs.Prelude.{slice_get, Result, Ok, Err, IfOk, IfErr}
use Rattle.std.specs.Result.{IsErrAnd}
use Rattle.std.proofs.lemmas.Bool.Decides.{leb_tells}
use Rattle.std.proofs.lemmas.List.{length-map, length-drop}
use Rattle.std.proofs.lemmas.Option.{slice_get_within}
use Rattle.codec_base.specs.declared.error.CodecError.{CodecError}
use Rattle.journal_base.specs.Items.{Items}
use Rattle.journal_base.specs.View.{View, SameButBounds, at_bounds, log_of}
use Rattle.volume_base.specs.Log.{Log, end_of}
use Rattle.volume_base.specs.Moments.{LogHas, LogLeft, LogKeeps}
use Rattle.volume_base.specs.Names.{log_alone, NamesCall}
use Rattle.volume_base.specs.Volume.{State, OnlyLeft, PastStays, SameContents, LogCall, Reads, Changes}
use Rattle.volume_base.proofs.CallLemmas.{log_call_idle, log_call_after_read, names_call_idle, names_call_joins}
use Rattle.volume_base.proofs.JoinLemmas.{changes_joins, went_of_reads}
use Rattle.volume_base.proofs.StepLemmas.{shrinks_same}
use Rattle.volume_base.proofs.TurnLemmas.{log_back, keeps_idle, keeps_joins, now_after}
use Rattle.tree_shape.specs.Hashing.{Hashing}
use Rattle.tree_shape.specs.Shape.{Shape}
use Rattle.log_model.specs.Meaning.{Meaning}
use Rattle.log_model.specs.AppliedSizes.{first_at_least}
use Rattle.chain_core.specs.declared.error.Error.{Error}
use Rattle.chain_core.specs.declared.error.Error.TheVariants.{Volume}
use Rattle.witness_store.specs.Selected.{end_within, IsLastWithin}
use Rattle.witness_store.specs.StoreView.{HasWitnesses}
use Rattle.witness_store.specs.declared.witness.Witness.{Witness}
use Rattle.compact_db.specs.DbView.{DbView, seen_log}
use Rattle.compact_db.specs.Held.{HasStates}
use Rattle.compact_db.specs.Opening.{IsCapped, IsPast, IsLatest, witnesses_in, IsChosen, IsOpenedAt, IsOpeningFault, WhyNotOpened, IsOpenLog, OpensFrom, Begins, Opens}
use Rattle.compact_db.specs.Rebuild.{rebuild_answer}
use Rattle.compact_db.specs.WitnessOf.{witness_of}
use Rattle.chain_core.specs.Answers.{IsOutside}
use Rattle.compact_db.proofs.OpenLemmas.{not_corrupt}
use Rattle.compact_db.proofs.ServingLemmas.{if_ok}
use Rattle.compact_db.proofs.SizeLemmas.{get_behind, from_first}
use Rattle.compact_db.proofs.StateLemmas.{end_is, latest_is, rising_sizes}

-- ---- the latest size

past_capped : (cap : Option ℕ) (n : ℕ) → IsPast cap n → IsCapped cap n → ⊥
past_capped None n past within = past
past_capped (Some cap) n past within = omega (arith, past, within)

never_later : (sizes : List ℕ) (start : ℕ) (cap : Option ℕ) (c n d k : ℕ) → IsLatest sizes start cap c n → IsLatest sizes start cap d k → c < d → ⊥
never_later sizes start cap c n d k one two lt =
    past_capped cap k (one.above (d - 1) k (omega (arith, lt)) two.here) two.within

-- there is one of it
pub one_latest : (sizes : List ℕ) (start : ℕ) (cap : Option ℕ) (c n d k : ℕ) → IsLatest sizes start cap c n → IsLatest sizes start cap d k → c ≡ d
one_latest sizes start cap c n d k one two = elim (leb_tells c d) [
  | inl t ↦ elim (leb_tells d c) [
    | inl u ↦ omega (arith, t.1, u.1)
    | inr u ↦ absurd (never_later sizes start cap c n d k one two u.1)
  ]
  | inr t ↦ absurd (never_later sizes start cap d k c n two one t.1)
]

pub same_latest : (sizes : List ℕ) (start : ℕ) (cap : Option ℕ) (c n d k : ℕ) → IsLatest sizes start cap c n → IsLatest sizes start cap d k → n ≡ k
same_latest sizes start cap c n d k one two =
    let same = one_latest sizes start cap c n d k one two in
    let both : Some n ≡ Some k = sym one.here ∙ ap (λ (i : ℕ). slice_get sizes (i - 1)) same ∙ two.here in
    cc

module _ {F D Op V : Type 0} (s : Shape) (h : Hashing D) (m : Meaning Op V) (items : Items (Witness F D)) (ops : List Op) (sizes : List ℕ) (cap : Option ℕ) (count size : ℕ)
    (states : HasStates s h m ops sizes items) (latest : IsLatest sizes items.log.start cap count size) where
  -- so the log isn't empty
  pub latest_some : 0 < length items.log.items
  latest_some =
      let ws = map (witness_of {F = F} s h m ops) sizes in
      let texts = map items.spelling ws in
      let lt = slice_get_within sizes (count - 1) size latest.here in
      let some = latest.kept in
      let held = ap length states.witnesses.spelled.items in
      omega (arith, lt, some, held, length-drop items.log.start texts, length-map ws items.spelling, length-map sizes (witness_of {F = F} s h m ops))

  pub never_none : IsLastWithin {F = F} {D = D} (map (witness_of s h m ops) sizes) items.log.start cap None → ⊥
  never_none none = over cap none latest.within
    where
      lt : count - 1 < length sizes
      lt = slice_get_within sizes (count - 1) size latest.here

      over : (o : Option ℕ) → end_within (map (witness_of {F = F} s h m ops) sizes) items.log.start o ≡ items.log.start → IsCapped o size → ⊥
      over None at within = let some = latest.kept in omega (arith, some, lt, at, length-map sizes (witness_of {F = F} s h m ops))
      over (Some c) at within =
          let start = items.log.start in
          let some = latest.kept in
          let place : start + first_at_least (c + 1) (drop start sizes) ≡ start = sym (end_is F s h m ops sizes start (Some c)) ∙ at in
          let back : start + (count - 1 - start) ≡ count - 1 = omega (arith, some) in
          let here : slice_get (drop start sizes) (count - 1 - start) ≡ Some size = get_behind sizes start (count - 1 - start) ∙ ap (slice_get sizes) back ∙ latest.here in
          let low = from_first (c + 1) (drop start sizes) (count - 1 - start) size (rising_sizes s h m ops sizes start items refl states.witnesses) (omega (arith, place)) here in
          omega (arith, low, within)

  -- what is selected is the witness of that size, and so many sizes end with it
  pub chosen_latest : (end : ℕ) (w : Witness F D) → IsChosen items cap (Some (end, w)) → (end ≡ count) × (w ≡ witness_of s h m ops size)
  chosen_latest end w chosen =
      let start = items.log.start in
      let found = latest_is s h m ops sizes start cap end w (rising_sizes s h m ops sizes start items refl states.witnesses) (chosen.last _ states.witnesses) in
      let size_is = same_latest sizes start cap end found.0 count size found.1 latest in
      (one_latest sizes start cap end found.0 count size found.1 latest, found.2 ∙ ap (witness_of s h m ops) size_is)

  -- it is refused as that witness doesn't rebuild, or by the outside
  pub damaged_why : (decoded : List ℕ → Result Op CodecError) (e : Error F) → WhyNotOpened s m decoded items cap e
      → IsOutside e ⊎ (rebuild_answer s m decoded (witness_of {F = F} s h m ops size) ≡ Err e)
  damaged_why decoded e (inl out) = inl out
  damaged_why decoded e (inr (inl (past, empty, is))) = let some = latest_some in let none = ap length empty in absurd (omega (arith, some, none))
  damaged_why decoded e (inr (inr (some, inl (inl out)))) = inl out
  damaged_why decoded e (inr (inr (some, inl (inr (inl (p, bad, is)))))) = absurd (not_corrupt items _ p states.witnesses bad)
  damaged_why decoded e (inr (inr (some, inl (inr (inr (p, capped, none, is)))))) = absurd (never_none (none.last _ states.witnesses))
  damaged_why decoded e (inr (inr (some, inr (end, w, chosen, why)))) =
      inr (subst (λ (x : Witness F D). rebuild_answer s m decoded x ≡ Err e) (chosen_latest end w chosen).1 why)

-- ---- errors

pub err_is : {T E : Type 0} (r : Result T E) (e : E) → IsErrAnd r (λ d. d ≡ e) → r ≡ Err e
err_is (Ok x) e is = absurd is
err_is (Err d) e is = ap Err is

if_err : {T E : Type 0} (r : Result T E) (P Q : E → Type 0) → IfErr r P → ((e : E) → P e → Q e) → IfErr r Q
if_err (Ok x) P Q p give = tt
if_err (Err e) P Q p give = give e p

-- ---- openings

module _ (F Cfg : Type 0) {D Op V : Type 0} (s : Shape) (h : Hashing D) (m : Meaning Op V) (spelling : D → List ℕ) (admits : D → Type 0)
    (decoded : List ℕ → Result Op CodecError) (allowed : Op → Type 0) (view : View (Unit {0})) (cap : Option ℕ) (tells : Type 0) where
  abbrev kept_in : Log → Items (Witness F D)
  kept_in log = witnesses_in spelling admits log

  abbrev pub Answer : Type 0
  Answer = Result (DbView F D Op Cfg) (Error F)

  abbrev pub OpensHere : State → State → Answer → Type 0
  OpensHere old new r = Opens s h m spelling admits decoded allowed view cap tells old new r

  abbrev pub FromHere : Log → State → Answer → Type 0
  FromHere log new r = OpensFrom s h m spelling admits decoded allowed view cap log new r

  -- nothing is opened
  from_err : (log : Log) (new : State) (e : Error F) → WhyNotOpened s m decoded (kept_in log) cap e → FromHere log new (Err e)
  from_err log new e why = record {
    tip = tt;
    begun = tt;
    resumed = tt;
    held = tt;
    refused = why;
    damaged = λ ops sizes count size states latest. damaged_why s h m (kept_in log) ops sizes cap count size states latest decoded e why;
  }

  -- nothing is written
  pub opens_not : (e : Error F) (a b : State) → b.clock ≡ a.clock → (tells → PastStays a b) → (tells → SameContents a b)
      → (let r : Answer = Err e in Changes tells Volume a b r) → (tells → WhyNotOpened s m decoded (kept_in (log_of view a)) cap e) → IsOpeningFault D s m decoded cap e → OpensHere a b (Err e)
  opens_not e a b clock past contents changes why fault = record {
    log = tt;
    contents = λ told. from_err (log_of view a) b e (why told);
    unwritten = λ told. inr clock;
    names = λ told. names_call_idle (log_alone view.name) a b clock (past told) (contents told);
    images = λ told ops sizes count size greatest least states latest le has.
        keeps_idle (LogLeft view.name) (log_back view.name) (HasWitnesses spelling (map (witness_of {F = F} s h m ops) sizes) greatest least) a b clock (past told) has;
    first = λ told empty. log_call_idle view.name (Begins F s h m spelling) a b clock (past told) (contents told) (λ l. inl (shrinks_same 0 l));
    errors = fault;
    changes = changes;
  }

  -- ---- behind a call that reads

  module _ (a b c : State) (clock : b.clock ≡ a.clock) (past : tells → PastStays a b) (contents : tells → SameContents a b) where
    abbrev same_log : tells → log_of view b ≡ log_of view a
    same_log told = (contents told).logs view.name

    pub left_later : (P : Log → Type 0) → tells → LogHas a view.name P → LogHas b view.name P
    left_later P told has = now_after (LogLeft view.name) P a b (keeps_idle (LogLeft view.name) (log_back view.name) P a b clock (past told) has)

    pub keeps_later : (P : Log → Type 0) → tells → LogHas a view.name P → LogKeeps view.name P b c → LogKeeps view.name P a c
    keeps_later P told has keeps =
        keeps_joins (LogLeft view.name) (log_back view.name) P a b c (keeps_idle (LogLeft view.name) (log_back view.name) P a b clock (past told) has) keeps

    pub names_later : tells → NamesCall (log_alone view.name) b c → NamesCall (log_alone view.name) a c
    names_later told call = names_call_joins (log_alone view.name) a b c (names_call_idle (log_alone view.name) a b clock (past told) (contents told)) call

    pub states_later : (ops : List Op) (sizes : List ℕ) → tells → HasStates s h m ops sizes (kept_in (log_of view a)) → HasStates s h m ops sizes (kept_in (log_of view b))
    states_later ops sizes told states = subst (λ (l : Log). HasStates s h m ops sizes (kept_in l)) (sym (same_log told)) states

    pub latest_later : (sizes : List ℕ) (count size : ℕ) → tells → IsLatest sizes (log_of view a).start cap count size → IsLatest sizes (log_of view b).start cap count size
    latest_later sizes count size told latest = subst (λ (l : Log). IsLatest sizes l.start cap count size) (sym (same_log told)) latest

  pub changes_after : {T E X : Type 0} (fault : E) (answer : X) (a b c : State) (r : Result T (Error F)) → Reads tells fault a b (Ok answer) → Changes tells Volume b c r → Changes tells Volume a c r
  changes_after fault answer a b c r read changes =
      changes_joins tells Volume Volume a b c r r (went_of_reads tells fault a b answer read) changes (λ is. is) changes.kept

  -- the same of a view with other bounds, and before a call that reads
  pub opens_after : {E X : Type 0} (fault : E) (answer : X) (seen : View (Unit {0})) (a b c : State) (r : Answer) → SameButBounds view seen → Reads tells fault a b (Ok answer)
      → Opens s h m spelling admits decoded allowed seen cap tells b c r → OpensHere a c r
  opens_after fault answer seen a b c r but read made =
      let named : seen.name ≡ view.name = ap (λ (v : View (Unit {0})). v.name) but in
      let same = λ (told : tells). (read.contents told).logs view.name in
      record {
        log = if_ok r (λ db. IsOpenLog tells seen db.log c) (λ db. IsOpenLog tells view db.log c) made.log (λ db is. log_as seen c db but is);
        contents = λ told. subst (λ (l : Log). FromHere l c r) (ap (λ (n : List ℕ). b.log n) named ∙ same told) (from_as seen c r (b.log seen.name) named (made.contents told));
        unwritten = λ told. if_err r (λ e. IsOutside e ⊎ (c.clock ≡ b.clock)) (λ e. IsOutside e ⊎ (c.clock ≡ a.clock)) (made.unwritten told) (λ e is. elim is [
          | inl out ↦ inl out
          | inr still ↦ inr (still ∙ read.clock)
        ]);
        names = λ told. names_later a b c read.clock read.past read.contents told (subst (λ (n : List ℕ). NamesCall (log_alone n) b c) named (made.names told));
        images = λ told ops sizes count size greatest least states latest le has.
            keeps_later a b c read.clock read.past read.contents (HasWitnesses spelling (map (witness_of {F = F} s h m ops) sizes) greatest least) told has
            (subst (λ (n : List ℕ). LogKeeps n (HasWitnesses spelling (map (witness_of {F = F} s h m ops) sizes) greatest least) b c) named
            (made.images told ops sizes count size greatest least
            (subst (λ (l : Log). HasStates s h m ops (take (end_of l) sizes) (kept_in l)) (sym (ap (λ (n : List ℕ). b.log n) named ∙ same told)) states)
            (subst (λ (l : Log). IsLatest (take (end_of l) sizes) l.start cap count size) (sym (ap (λ (n : List ℕ). b.log n) named ∙ same told)) latest) le
            (subst (λ (n : List ℕ). LogHas b n (HasWitnesses spelling (map (witness_of {F = F} s h m ops) sizes) greatest least)) (sym named)
            (left_later a b c read.clock read.past read.contents (HasWitnesses spelling (map (witness_of {F = F} s h m ops) sizes) greatest least) told has))));
        first = λ told empty. log_call_after_read tells fault view.name (Begins F s h m spelling) (λ l. inl (shrinks_same 0 l)) a b (Ok answer) read c told
            (subst (λ (n : List ℕ). LogCall n (Begins F s h m spelling) b c) named (made.first told (ap (λ (n : List ℕ). b.log n) named ∙ same told ∙ empty)));
        errors = made.errors;
        changes = changes_after fault answer a b c r read made.changes;
      }
    where
      log_as : (seen : View (Unit {0})) (state : State) (db : DbView F D Op Cfg) → SameButBounds view seen → IsOpenLog tells seen db.log state → IsOpenLog tells view db.log state
      log_as seen state db but is = record {
        opened = is.opened;
        committed = is.committed;
        same = joined (seen_log db.log) but is.same;
        held = is.held;
        durable = λ told. subst (λ (n : List ℕ). OnlyLeft (state.log_left state.clock n) (state.log n)) (ap (λ (v : View (Unit {0})). v.name) but) (is.durable told);
      }
        where
          joined : (third : View (Unit {0})) → SameButBounds view seen → SameButBounds seen third → SameButBounds view third
          joined third one two = two ∙ ap (λ (v : View (Unit {0})). at_bounds v third.start third.end) one

      from_as : (seen : View (Unit {0})) (state : State) (r : Answer) (log : Log) → seen.name ≡ view.name → OpensFrom s h m spelling admits decoded allowed seen cap log state r → FromHere log state r
      from_as seen state r log named is = record {
        tip = is.tip;
        begun = is.begun;
        resumed = subst (λ (n : List ℕ). IfOk r (λ db. 0 < length log.items → IsOpenedAt s m decoded (kept_in log) cap h allowed db (state.log n))) named is.resumed;
        held = is.held;
        refused = is.refused;
        damaged = is.damaged;
      }
