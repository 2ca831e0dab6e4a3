-- How a database is opened at a witness of its log, from call to call.
use Rattle.std.proofs.Common.{◌≡◌, ◌⊎◌, inl, inr, ℕ, ◌-◌, ◌^◌, ◌<◌, ◌≤◌, false, List, [], length, map, take, Option, Some, None, refl, sym, ◌∙◌, ap, subst, arith}
use Rattle.std.specs.Prelude.{slice_get, Result, Ok, Err}
use Rattle.std.proofs.lemmas.List.{length-take}
use Rattle.codec_base.specs.declared.error.CodecError.{CodecError}
use Rattle.journal_base.specs.Answers.{IsOfRead, IsOfStart}
use Rattle.journal_base.specs.Items.{Items}
use Rattle.journal_base.specs.View.{View, SameButBounds, IsHeld, IsDurable, log_of}
use Rattle.volume_base.specs.Log.{Log, end_of, cut_to}
use Rattle.volume_base.specs.Moments.{LogHas, LogKeeps}
use Rattle.volume_base.specs.Names.{log_alone}
use Rattle.volume_base.specs.Volume.{State, Reads, Writes, WritesLog, Changes}
use Rattle.volume_base.specs.declared.error.JournalError.{JournalError}
use Rattle.volume_base.specs.declared.error.JournalError.TheVariants as journal_error
use Rattle.volume_base.proofs.CallLemmas.{names_call_log}
use Rattle.volume_base.proofs.JoinLemmas.{changes_of_reads, changes_of_writes}
use Rattle.volume_base.proofs.ReadLemmas.{only_read_none, only_read_joins, reads_of}
use Rattle.tree_shape.specs.Hashing.{Hashing}
use Rattle.tree_shape.specs.Shape.{Shape, IsLawful}
use Rattle.tree_core.specs.Tree.{Tree}
use Rattle.log_model.specs.Meaning.{Meaning}
use Rattle.log_model.specs.Good.{EndsWithCommit}
use Rattle.chain_core.specs.declared.error.Error.{Error}
use Rattle.chain_core.specs.declared.error.Error.TheVariants.{Volume, HistoricalFloorPruned}
use Rattle.chain_core.specs.Errors.{from_journal}
use Rattle.witness_store.specs.StoreView.{StoreView, HasWitnesses}
use Rattle.witness_store.specs.Witnesses.{Keeps}
use Rattle.witness_store.specs.declared.witness.Witness.{Witness}
use Rattle.compact_db.specs.DbView.{DbView, IsOfList}
use Rattle.compact_db.specs.Held.{HasStates, IsHeldFor}
use Rattle.compact_db.specs.Opening.{IsLatest, witnesses_in, IsChosen, WhyNoneChosen, Opens}
use Rattle.compact_db.specs.Rebuild.{RefusedOnlyAs, rebuild_answer}
use Rattle.compact_db.specs.StateOf.{IsStateOf}
use Rattle.compact_db.specs.WitnessOf.{witness_of}
use Rattle.chain_core.specs.Answers.{IsOutside}
use Rattle.compact_db.specs.declared.database.WitnessLog.TheVariants.{Open}
use Rattle.compact_db.specs.declared.verified.VerifiedWitness.{VerifiedWitness}
use Rattle.compact_db.proofs.HeldLemmas.{cut_held}
use Rattle.compact_db.proofs.OpenLemmas.{start_why, start_read}
use Rattle.compact_db.proofs.ServingLemmas.{never_volume, not_volume}
use Rattle.compact_db.proofs.SettleLemmas.{changes_passed}
use Rattle.compact_db.proofs.StartLemmas.{chosen_latest, opens_not, left_later, keeps_later, names_later, changes_after}
use Rattle.compact_db.proofs.StateLemmas.{kept_size, front_ends, front_witness, last_taken}

pub chosen_past : {F D : Type 0} (items : Items (Witness F D)) (cap : Option ℕ) (end : ℕ) (w : Witness F D) → IsChosen items cap (Some (end, w)) → items.log.start < end
chosen_past items None end w chosen = chosen.here.0
chosen_past items (Some cap) end w chosen = chosen.here.0

-- a log between two bounds has a witness
pub some_held : (view : View (Unit {0})) (state : State) → view.start < view.end → IsHeld view state → 0 < length (log_of view state).items
some_held view state lt held = let a = held.start_is in let b = held.end_is in omega (arith, lt, a, b)

-- a call that only reads and is refused
pub changes_err : {E : Type 0} (T U tells : Type 0) (fault : E) (a b : State) (e : E) → Reads {T = T} tells fault a b (Err e) → Changes {T = U} tells fault a b (Err e)
changes_err T U tells fault a b e read = record {
  later = omega (arith, read.clock);
  still = λ told same. read.contents told;
  faults = read.faults;
  failed = λ is. read.failed (let same : e ≡ fault = cc in ap Err same);
  kept = tt;
  reads = read.reads;
  steady = read.steady;
}

module _ (F Cfg : Type 0) {D Op V : Type 0} (s : Shape) (h : Hashing D) (m : Meaning Op V) (spelling : D → List ℕ) (admits : D → Type 0)
    (decoded : List ℕ → Result Op CodecError) (allowed : Op → Type 0) (view : View (Unit {0})) (cap : Option ℕ) (tells : Type 0) where
  abbrev kept : State → Items (Witness F D)
  kept state = witnesses_in spelling admits (log_of view state)

  abbrev Here : State → State → Result (DbView F D Op Cfg) (Error F) → Type 0
  Here old new r = Opens s h m spelling admits decoded allowed view cap tells old new r

  -- none is selected
  pub chosen_not : (e : Error F) (a b : State) → Reads {T = ℕ × Witness F D} tells Volume a b (Err e) → (tells → 0 < length (log_of view a).items) → (tells → WhyNoneChosen (kept a) cap e)
      → ((p : ℕ) × (cap ≡ Some p) × (e ≡ HistoricalFloorPruned p)) ⊎ ((cause : JournalError) × IsOfRead cause × (e ≡ from_journal cause)) → Here a b (Err e)
  chosen_not e a b read some why fault =
      opens_not F Cfg s h m spelling admits decoded allowed view cap tells e a b read.clock read.past read.contents
      (changes_err (ℕ × Witness F D) (DbView F D Op Cfg) tells Volume a b e read) (λ told. inr (inr (some told, inl (why told))))
      (elim fault [
        | inl floor ↦ inr (inr (inl floor))
        | inr why ↦ inr (inr (inr (inl (why.0, inl why.1, why.2))))
      ])

  module _ (end : ℕ) (w : Witness F D) (a b : State) (read : let r : Result (ℕ × Witness F D) (Error F) = Ok (end, w) in Reads tells Volume a b r)
      (some : tells → 0 < length (log_of view a).items) (chosen : tells → IsChosen (kept a) cap (Some (end, w))) where
    -- the selected one doesn't rebuild
    pub rebuilt_not : (T : Type 0) (e : Error F) → RefusedOnlyAs {T = T} (rebuild_answer s m decoded w) (Err e) → Here a b (Err e)
    rebuilt_not T e refused =
        let r : Result (DbView F D Op Cfg) (Error F) = Err e in
        opens_not F Cfg s h m spelling admits decoded allowed view cap tells e a b read.clock read.past read.contents
        (changes_of_reads tells Volume a b r (reads_of tells Volume a b r (only_read_joins tells Volume a a b (end, w) (only_read_none tells a) read)
        (not_volume (rebuild_answer s m decoded w) r refused (never_volume s m decoded w))))
        (λ told. elim refused [
          | inl is ↦ inr (inr (some told, inr (end, w, chosen told, is)))
          | inr is ↦ inl (subst (λ (x : Error F). IsOutside x) (sym is) tt)
        ])
        (elim refused [
          | inl is ↦ inr (inr (inr (inr (w, is))))
          | inr is ↦ inl (subst (λ (x : Error F). IsOutside x) (sym is) tt)
        ])

    module _ (c : State) (images : tells → (ws : List (Witness F D)) (greatest least : ℕ) → least ≤ end → LogHas b view.name (HasWitnesses spelling ws greatest least) →
        LogKeeps view.name (HasWitnesses spelling ws greatest least) b c) where
      images_all : tells → (ops : List Op) (sizes : List ℕ) (count size greatest least : ℕ) → HasStates {F = F} s h m ops (take (end_of (log_of view a)) sizes) (kept a)
          → IsLatest (take (end_of (log_of view a)) sizes) (log_of view a).start cap count size → least ≤ count → LogHas a view.name (HasWitnesses spelling (map (witness_of {F = F} s h m ops) sizes) greatest least)
          → LogKeeps view.name (HasWitnesses spelling (map (witness_of {F = F} s h m ops) sizes) greatest least) a c
      images_all told ops sizes count size greatest least states latest le has =
          let P = HasWitnesses spelling (map (witness_of {F = F} s h m ops) sizes) greatest least in
          let at = (chosen_latest s h m (kept a) ops (take (end_of (log_of view a)) sizes) cap count size states latest end w (chosen told)).0 in
          keeps_later F Cfg s h m spelling admits decoded allowed view cap tells a b c read.clock read.past read.contents P told has
          (images told (map (witness_of {F = F} s h m ops) sizes) greatest least (omega (arith, le, at))
          (left_later F Cfg s h m spelling admits decoded allowed view cap tells a b c read.clock read.past read.contents P told has))

      never_empty : {X : Type 0} → tells → (log_of view a).items ≡ [] → X
      never_empty told none = let least = some told in let is = ap length none in absurd (omega (arith, least, is))

      -- the log isn't cut
      pub cut_not : {T : Type 0} (step : Log → Log → Type 0) (j : JournalError) → IsOfStart j → ((p : ℕ) → j ≡ journal_error.ItemPruned p → tells → end < (log_of view b).start)
          → WritesLog {T = T} tells journal_error.Volume view.name step b c (Err j) → Here a c (Err (from_journal j))
      cut_not {T} step j of pruned call =
          let out : tells → IsOutside (from_journal {F = F} j) = λ told. start_why F j of (λ p is.
          let past = chosen_past (kept a) cap end w (chosen told) in
          let low = pruned p is told in
          let same = ap (λ (l : Log). l.start) ((read.contents told).logs view.name) in
          omega (arith, past, low, same)) in
          let r : Result (DbView F D Op Cfg) (Error F) = Err (from_journal j) in
          let one : Result T JournalError = Err j in
          record {
            log = tt;
            contents = λ told. record {
              tip = tt;
              begun = tt;
              resumed = tt;
              held = tt;
              refused = inl (out told);
              damaged = λ ops sizes count size states latest. inl (out told);
            };
            unwritten = λ told. inl (out told);
            names = λ told. names_later F Cfg s h m spelling admits decoded allowed view cap tells a b c read.clock read.past read.contents told
                (names_call_log (log_alone view.name) view.name step b c (inl refl) (call.log told));
            images = images_all;
            first = λ told empty. never_empty told (ap (λ (l : Log). l.items) empty);
            errors = inr (inr (inr (inl (j, inl (start_read j of), refl))));
            changes = changes_after F Cfg s h m spelling admits decoded allowed view cap tells Volume (end, w) a b c r read
                (changes_passed tells b c one r refl (changes_of_writes tells journal_error.Volume b c one call.writes));
          }

      -- the log is cut behind it
      module _ (lawful : IsLawful s) (store : StoreView) (tip : VerifiedWitness F D) (tree : Tree D) (commit : Op) (codec : Cfg)
          (answer : rebuild_answer s m decoded w ≡ Ok commit) (tip_is : tip.witness ≡ w)
          (list : (ops : List Op) → EndsWithCommit m ops → length ops ≤ 2 ^ 62 → ((op : Op) → slice_get ops (length ops - 1) ≡ Some op → allowed op) → w ≡ witness_of s h m ops (length ops) → IsStateOf s h m ops tip tree commit)
          (fresh : view.failed ≡ false) (made : SameButBounds view store.log × (store.uncommitted ≡ store.log.failed)) (held : tells → IsHeld store.log c)
          (cut : tells → log_of view c ≡ cut_to (log_of view b) end) (keeps : tells → (ws : List (Witness F D)) → Keeps (kept b) ws → Keeps (kept c) (take end ws))
          (durable : tells → IsDurable view c) where
        abbrev pub Made : DbView F D Op Cfg
        Made = record { log = Open store; tip = tip; tree = tree; commit = commit; codec = codec }

        held_all : tells → (ops : List Op) (sizes : List ℕ) (count size : ℕ) → HasStates {F = F} s h m ops sizes (kept a) → IsLatest sizes (log_of view a).start cap count size
            → ((op : Op) → slice_get ops (size - 1) ≡ Some op → allowed op) → IsHeldFor s h m spelling admits (take size ops) (take count sizes) Made c
        held_all told ops sizes count size states latest all =
            let start = (log_of view a).start in
            let ws = map (witness_of {F = F} s h m ops) sizes in
            let at = chosen_latest s h m (kept a) ops sizes cap count size states latest end w (chosen told) in
            let same = (read.contents told).logs view.name in
            let few = states.few in
            let is : IsOfList s h m (take size ops) Made =
            list (take size ops) (front_ends s h m ops sizes start count size states.within latest.kept latest.here) (omega (arith, few, length-take size ops))
            (λ op here. all op (last_taken m size ops (kept_size s h m ops sizes start count size states.within latest.kept latest.here) op here)) (at.1 ∙ front_witness s h m ops sizes start count size states.within latest.kept latest.here) in
            let begins : (log_of view c).start ≡ start = ap (λ (l : Log). l.start) (cut told) ∙ ap (λ (l : Log). l.start) same in
            let left = keeps told ws (subst (λ (l : Log). Keeps {F = F} {D = D} (witnesses_in spelling admits l) ws) (sym same) states.witnesses) in
            cut_held s h m lawful spelling admits Made c view (ap (λ (v : View (Unit {0})). v.name) made.0) refl (held told)
            (kept a) ops sizes count size begins latest.kept latest.here is states
            (subst (λ (n : ℕ). Keeps (kept c) (take n ws)) at.0 left)

        pub resumes : {E : Type 0} (fault : E) (step : Log → Log → Type 0) → WritesLog tells fault view.name step b c (let r : Result StoreView E = Ok store in r) → Here a c (Ok Made)
        resumes {E} fault step call =
            let r : Result (DbView F D Op Cfg) (Error F) = Ok Made in
            record {
              log = record {
                opened = refl;
                committed = made.1 ∙ ap (λ (v : View (Unit {0})). v.failed) made.0 ∙ fresh;
                same = made.0;
                held = held;
                durable = durable;
              };
              contents = λ told. record {
                tip = λ none. never_empty told none;
                begun = λ empty. never_empty told (ap (λ (l : Log). l.items) empty);
                resumed = λ least. record {
                  end = end;
                  witness = w;
                  chosen = chosen told;
                  rebuilt = answer;
                  tip = tip_is;
                  list = list;
                  cut = cut told ∙ ap (λ (l : Log). cut_to l end) ((read.contents told).logs view.name);
                };
                held = held_all told;
                refused = tt;
                damaged = λ ops sizes count size states latest. tt;
              };
              unwritten = λ told. tt;
              names = λ told. names_later F Cfg s h m spelling admits decoded allowed view cap tells a b c read.clock read.past read.contents told
                  (names_call_log (log_alone view.name) view.name step b c (inl refl) (call.log told));
              images = images_all;
              first = λ told empty. never_empty told (ap (λ (l : Log). l.items) empty);
              errors = tt;
              changes = changes_after F Cfg s h m spelling admits decoded allowed view cap tells Volume (end, w) a b c r read (changes_ok (call.writes));
            }
          where
            changes_ok : Writes tells fault b c (let r : Result StoreView E = Ok store in r) → Changes tells Volume b c (let r : Result (DbView F D Op Cfg) (Error F) = Ok Made in r)
            changes_ok w = record {
              later = w.later;
              still = w.still;
              faults = w.faults;
              failed = λ is. absurd cc;
              kept = w.kept;
              reads = omega (arith, w.reads);
              steady = w.steady;
            }
