-- What a crash leaves of the full database while it is opened.
use Rattle.std.proofs.Common.{◌≡◌, ◌≢◌, ◌⊎◌, inl, inr, ℕ, zero, suc, ◌<◌, ◌≤◌, ◌^◌, List, [], ◌∷◌, ◌++◌, length, map, take, drop, Option, Some, None, refl, sym, ◌∙◌, ap, subst, arith}
use Rattle.std.specs.Prelude.{slice_get, Result, Ok, Err, IfOk}
use Rattle.std.specs.List.{AllByRecursion}
use Rattle.std.proofs.lemmas.List.{length-map, length-take, length-take-le, take_all, take-append-drop}
use Rattle.codec_base.specs.declared.parts.LengthCfg.{LengthCfg}
use Rattle.journal_base.specs.Items.{Items, Spells, items_of}
use Rattle.journal_base.specs.View.{View, capped, log_of}
use Rattle.volume_base.specs.Log.{Log, end_of, cut_to}
use Rattle.volume_base.specs.Moments.{Between, Image, Keeps, LeftAt, NamesLeft, Now, Steps, Turns, present}
use Rattle.volume_base.specs.Names.{Names, two_logs_and_map}
use Rattle.volume_base.specs.Volume as volume
use Rattle.volume_base.proofs.NameLemmas.{names_of_image}
use Rattle.volume_base.proofs.TurnLemmas.{between_joins, between_weaker, keeps_weaker, turned_after}
use Rattle.tree_shape.specs.Mmr.{mmr}
use Rattle.tree_shape.specs.Sha256Codec.{bytes_of}
use Rattle.tree_shape.specs.declared.mmr.Mmr.{Mmr}
use Rattle.chain_core.specs.declared.error.Error.{Error}
use Rattle.auth_journal.specs.Searching.{EndsAt}
use Rattle.auth_journal.specs.Standing.{Marks, NamesKeepStanding, NamesSettle, NamesStand, all_synced}
use Rattle.log_model.specs.AppliedSizes.{AreSizes}
use Rattle.log_model.specs.Good.{AnyList, EndsWithCommit, IsDurable}
use Rattle.log_model.specs.Machine.{State}
use Rattle.log_model.specs.Opening.{last_commit}
use Rattle.log_model.specs.Stored.{FullStands}
use Rattle.log_model.proofs.LogLemmas.{ends_at}
use Rattle.log_model.proofs.OpeningLemmas.{applied_some, commit_past, good_front, rise_all, rises_from_zero}
use Rattle.log_model.proofs.StoredLemmas.{full_wider}
use Rattle.keyless_db.specs.Opening.{EndsPast, GoesOn, IsBuiltAt, IsSaidCommit, KeepsDurable}
use Rattle.keyless_db.proofs.ListedLemmas.{ends_within}
use Rattle.compact_db.proofs.SizeLemmas.{all_at, all_before}
use Rattle.list_machine.specs.Operation.{Operation, meaning, sha}
use Rattle.list_machine.specs.Step.{plain_commit}
use Rattle.list_machine.proofs.OpeningParts.{floor_below, last_taken, part_run}
use Rattle.twin_databases.specs.FullKind.{FullView}
use Rattle.twin_databases.specs.Standing.{NamesStandFor, OpensGood, StandNow, settled_at}
use Rattle.twin_databases.proofs.FoundLemmas.{capped_le, ends_last_commit}
use Rattle.twin_databases.proofs.FullOpening.{Admits, operation_once}
use Rattle.twin_databases.proofs.GoodStart.{admitted}

-- a number below an end and within each cap is below the capped end
capped_past : (cap : Option ℕ) (end n : ℕ) → n ≤ end → ((most : ℕ) → cap ≡ Some most → n ≤ most) → n ≤ capped cap end
capped_past None end n le within = le
capped_past (Some most) end n le within = (let low = within most refl in omega (arith, low, le))

some_or_none : (n : ℕ) → (0 < n) ⊎ (n ≡ 0)
some_or_none zero = inr refl
some_or_none (suc n) = inl (omega arith)

-- a call that turns to what implies the one keeps the one
steps_keep : {T E : Type 0} (names : Names) (P Q : Image → Type 0) (old new : volume.State) (r : Result T E)
    → ((image : Image) → Q image → P image) → Steps (NamesLeft names) P Q old new r
    → Keeps (NamesLeft names) P old new
steps_keep names P Q old new (Ok made) weaker steps = record {
  past = steps.past;
  during =
      let turns = steps.ok in
      between_joins (NamesLeft names new) old.clock turns.turn new.clock P turns.first
      (between_weaker (NamesLeft names new) turns.turn new.clock Q P weaker turns.second);
}
steps_keep names P Q old new (Err e) weaker steps = by steps.err
  where
    by : Between (NamesLeft names new) old.clock new.clock P ⊎ Turns (NamesLeft names new) old.clock new.clock P Q
        → Keeps (NamesLeft names) P old new
    by (inl during) = record { past = steps.past; during = during }
    by (inr turns) = record {
      past = steps.past;
      during = between_joins (NamesLeft names new) old.clock turns.turn new.clock P turns.first
          (between_weaker (NamesLeft names new) turns.turn new.clock Q P weaker turns.second);
    }

module _ (tells : Type 0) (view : View LengthCfg) (nodes metadata : List ℕ) (old new : volume.State) (cap : Option ℕ)
  where
    abbrev Own : Names
    Own = two_logs_and_map view.name nodes metadata

    abbrev Kept : Items Operation
    Kept = items_of meaning.encoding Admits view old

    abbrev Stands : List Operation → Marks → Image → Type 0
    Stands ops marks = NamesStand mmr sha bytes_of meaning.encoding ops marks view.name nodes metadata

    -- what an opening says of what a crash leaves
    abbrev InitKeeps : Type 0
    InitKeeps = tells → (list rest : List Operation) (marks : Marks) → EndsPast meaning Kept cap
        → KeepsDurable meaning Kept cap marks → Spells meaning.encoding list (log_of view old)
        → length (list ++ rest) ≤ 2 ^ 62
        → NamesKeepStanding mmr sha bytes_of meaning.encoding (list ++ rest) marks view.name nodes metadata old new

    abbrev InitSettles : FullView → Type 0
    InitSettles db = tells → (list rest : List Operation) (marks : Marks) → EndsPast meaning Kept cap
        → KeepsDurable meaning Kept cap marks → Spells meaning.encoding list (log_of view old)
        → length (list ++ rest) ≤ 2 ^ 62
        → NamesSettle mmr sha bytes_of meaning.encoding (list ++ rest) db.state.size marks view.name nodes metadata old
        new

    abbrev InitBegins : Result FullView (Error Mmr) → Type 0
    InitBegins r = tells → (marks : Marks) → cap ≢ Some 0 → KeepsDurable meaning Kept cap marks
        → Spells meaning.encoding [] (log_of view old) → Now (NamesLeft Own) (Stands (plain_commit ∷ []) marks) old
        → Steps (NamesLeft Own) (Stands (plain_commit ∷ []) marks) (Stands (plain_commit ∷ []) (all_synced 1 marks))
        old new r

    abbrev InitOpens : FullView → Type 0
    InitOpens db = tells → (end : ℕ) × EndsAt Kept (IsSaidCommit meaning) cap end × IsBuiltAt plain_commit end db
        × GoesOn (meaning.encoding plain_commit) end (cut_to (log_of view old) end) (log_of view new)

    module _ (s : State Operation) (opens : OpensGood view.codec.max cap s)
        (left : LeftAt old old.clock (present old)) (has : StandNow view.name nodes metadata s old) where
      abbrev Marked : Marks
      Marked = record { durable = s.durable; node_durable = s.node_durable; prune = s.prune }

      abbrev OwnLog : Log
      OwnLog = log_of view old

      abbrev End : ℕ
      End = end_of OwnLog

      abbrev Listed : List Operation
      Listed = take End s.ops

      here : NamesStandFor view.name nodes metadata s (present old)
      here = has (present old) (names_of_image Own old old.clock (present old) left)

      within : End ≤ length s.ops
      within = (let le = here.operations.within in omega (arith, le, length-map s.ops meaning.encoding))

      count : length Listed ≡ End
      count = length-take-le End s.ops within

      whole : Listed ++ drop End s.ops ≡ s.ops
      whole = take-append-drop End s.ops

      spelled : Spells meaning.encoding Listed OwnLog
      spelled = part_run meaning.encoding s.ops s.prune s.durable OwnLog here.operations

      few : length (Listed ++ drop End s.ops) ≤ 2 ^ 62
      few = (let all = ap length whole in let most = opens.good.ops.few in omega (arith, all, most))

      all : AllByRecursion (Admits view.codec) s.ops
      all = admitted view.codec.max opens.small s opens.good

      allowed : (i : ℕ) (op : Operation) → slice_get Listed i ≡ Some op → Admits view.codec op
      allowed i op at = all_at (Admits view.codec) Listed i op (all_before (Admits view.codec) End s.ops all) at

      -- the log begins before what is durable, or at 0 where nothing is
      begins : (OwnLog.start < s.durable) ⊎ ((s.durable ≡ 0) × (s.sizes ≡ 1 ∷ []) × (OwnLog.start ≡ 0))
      begins = by opens.good.log.durable
        where
          by : IsDurable s.sizes s.durable
              → (OwnLog.start < s.durable) ⊎ ((s.durable ≡ 0) × (s.sizes ≡ 1 ∷ []) × (OwnLog.start ≡ 0))
          by (inl is) =
              let good = opens.good in
              let low = applied_some (length s.ops) s.durable s.sizes good.log.sizes is in
              let high = rise_all 0 (length s.ops) s.durable s.sizes
              (rises_from_zero (length s.ops) s.sizes good.log.sizes) is in
              let ends = ends_at meaning AnyList (λ (v : List ℕ). length v ≤ view.codec.max) plain_commit s.ops s.sizes
              is.0 s.durable s.durable good.log.commits is.1 is.2 in
              let front = good_front meaning AnyList (λ (v : List ℕ). length v ≤ view.codec.max) plain_commit AnyList
              s.ops s.durable low high ends tt good.ops in
              let many = length-take-le s.durable s.ops high in
              let floor = floor_below meaning (take s.durable s.ops) (omega (arith, many, low)) front.floors in
              let start = here.operations.start_high in
              let pruned = good.log.floor in
              inl (omega (arith, start, pruned, floor, many))
          by (inr (none, one)) =
              let start = here.operations.start_high in
              let pruned = opens.good.log.pruned in
              let less = opens.good.log.nodes in
              inr (none, one, omega (arith, start, pruned, less, none))

      some : (OwnLog.start < length Listed) ⊎ (length Listed ≡ 0)
      some = by begins (some_or_none (length Listed))
        where
          by : (OwnLog.start < s.durable) ⊎ ((s.durable ≡ 0) × (s.sizes ≡ 1 ∷ []) × (OwnLog.start ≡ 0))
              → (0 < length Listed) ⊎ (length Listed ≡ 0)
              → (OwnLog.start < length Listed) ⊎ (length Listed ≡ 0)
          by starts (inr none) = inr none
          by (inl lt) (inl more) = (let end = here.operations.end_low in inl (omega (arith, lt, end, count)))
          by (inr (none, one, zero_start)) (inl more) = inl (omega (arith, zero_start, more))

      -- an end at which it is opened is that of the last commit within the cap
      last_is : (end : ℕ) → EndsAt Kept (IsSaidCommit meaning) cap end → last_commit meaning (capped cap End) s.ops ≡ end
      last_is end ends =
          sym (last_taken meaning (capped cap End) End s.ops (capped_le meaning cap End))
          ∙ ap (λ (n : ℕ). last_commit meaning (capped cap n) Listed) (sym count)
          ∙ ends_last_commit meaning Kept Listed spelled (operation_once view.codec) allowed cap end some ends

      -- which is at or past what is durable
      durable_kept : s.durable ≤ last_commit meaning (capped cap End) s.ops
      durable_kept = by opens.good.log.durable
        where
          by : IsDurable s.sizes s.durable → s.durable ≤ last_commit meaning (capped cap End) s.ops
          by (inl is) =
              let good = opens.good in
              let low = applied_some (length s.ops) s.durable s.sizes good.log.sizes is in
              let high = rise_all 0 (length s.ops) s.durable s.sizes
              (rises_from_zero (length s.ops) s.sizes good.log.sizes) is in
              let ends = ends_at meaning AnyList (λ (v : List ℕ). length v ≤ view.codec.max) plain_commit s.ops s.sizes
              is.0 s.durable s.durable good.log.commits is.1 is.2 in
              let most = capped_past cap End s.durable here.operations.end_low (λ k is. (opens.past k is).1) in
              let past = commit_past meaning (capped cap End) 0 0 s.ops s.durable low high (omega (arith, most)) ends in
              omega (arith, past)
          by (inr (none, one)) = omega (arith, none)

      keeps : KeepsDurable meaning Kept cap Marked
      keeps end ends =
          let is = last_is end ends in
          let le = durable_kept in
          let less = opens.good.log.nodes in
          (omega (arith, is, le), omega (arith, is, le, less))

      -- ---- the log has an operation

      ops_some : 1 ≤ length s.ops
      ops_some = (let one = ap length opens.good.ops.begins in omega (arith, one, length-take 1 s.ops))

      first_kept : 0 < End → 1 ≤ last_commit meaning (capped cap End) s.ops
      first_kept more =
          let commit : EndsWithCommit meaning (plain_commit ∷ []) = refl in
          let ends = subst (EndsWithCommit meaning) (sym opens.good.ops.begins) commit in
          let most = capped_past cap End 1 (omega (arith, more)) (λ k is. (opens.past k is).0) in
          let past = commit_past meaning (capped cap End) 0 0 s.ops 1 (omega arith) ops_some (omega (arith, most)) ends in
          omega (arith, past)

      past_zero : 0 < End → EndsPast meaning Kept cap
      past_zero more end ends = (let is = last_is end ends in let le = first_kept more in omega (arith, is, le))

      to_list : (image : Image) → NamesStandFor view.name nodes metadata s image → Stands s.ops Marked image
      to_list image is = record { items = is.operations; tree = is.tree }

      of_list : (image : Image) → Stands s.ops Marked image → NamesStandFor view.name nodes metadata s image
      of_list image is = record { operations = is.items; tree = is.tree }

      listed_now : Now (NamesLeft Own) (Stands s.ops Marked) old
      listed_now image at = to_list image (has image at)

      some_keep : tells → InitKeeps → 0 < End
          → Keeps (NamesLeft Own) (NamesStandFor view.name nodes metadata s) old new
      some_keep told init more =
          let kept = subst
          (λ (ops : List Operation). NamesKeepStanding mmr sha bytes_of meaning.encoding ops Marked view.name nodes
          metadata old new) whole (init told Listed (drop End s.ops) Marked (past_zero more) keeps spelled few) in
          keeps_weaker (NamesLeft Own) (Stands s.ops Marked) (NamesStandFor view.name nodes metadata s) old new
          of_list (kept listed_now)

      some_settle : tells → (db : FullView) → InitSettles db → 0 < End
          → StandNow view.name nodes metadata (settled_at s db.state.size) new
      some_settle told db init more image at =
          let settle = subst
          (λ (ops : List Operation). NamesSettle mmr sha bytes_of meaning.encoding ops db.state.size Marked
          view.name nodes metadata old new) whole
          (init told Listed (drop End s.ops) Marked (past_zero more) keeps spelled few) in
          let is = settle listed_now image at in
          record { operations = is.items; tree = is.tree }

      -- ---- the log is empty

      module _ (none : End ≡ 0) where
        nothing : s.durable ≡ 0
        nothing = (let le = here.operations.end_low in omega (arith, le, none))

        one_size : s.sizes ≡ 1 ∷ []
        one_size = by begins
          where
            by : (OwnLog.start < s.durable) ⊎ ((s.durable ≡ 0) × (s.sizes ≡ 1 ∷ []) × (OwnLog.start ≡ 0))
                → s.sizes ≡ 1 ∷ []
            by (inl lt) = absurd (omega (arith, lt, nothing))
            by (inr (zero_durable, one, zero_start)) = one

        ops_one : s.ops ≡ plain_commit ∷ []
        ops_one =
            let sizes = subst (AreSizes (length s.ops)) one_size opens.good.log.sizes in
            let total : 1 ≡ length s.ops = sizes.1 in
            sym (take_all 1 s.ops (omega (arith, total))) ∙ opens.good.ops.begins

        empty : Spells meaning.encoding [] OwnLog
        empty = subst (λ (ops : List Operation). Spells meaning.encoding ops OwnLog)
            (ap (λ (n : ℕ). take n s.ops) none) spelled

        first_now : Now (NamesLeft Own) (Stands (plain_commit ∷ []) Marked) old
        first_now = subst (λ (ops : List Operation). Now (NamesLeft Own) (Stands ops Marked) old) ops_one
            listed_now

        abbrev Settled : Image → Type 0
        Settled = Stands (plain_commit ∷ []) (all_synced 1 Marked)

        first_steps : {r : Result FullView (Error Mmr)} → tells → InitBegins r
            → Steps (NamesLeft Own) (Stands s.ops Marked) Settled old new r
        first_steps {r = r} told init =
            subst (λ (ops : List Operation). Steps (NamesLeft Own) (Stands ops Marked) Settled old new r)
            (sym ops_one)
            (init told Marked (λ zero_cap. (let le = (opens.past 0 zero_cap).0 in absurd (omega (arith, le)))) keeps
            empty first_now)

        settled_stands : (image : Image) → Settled image → NamesStandFor view.name nodes metadata (settled_at s 1) image
        settled_stands image is =
            let same = sym opens.good.ops.begins in
            let all_is = subst (λ (ops : List Operation). Stands ops (all_synced 1 Marked) image) same is in
            record { operations = all_is.items; tree = all_is.tree }

        settled_before : (image : Image) → Settled image → Stands s.ops Marked image
        settled_before image is =
            let less = opens.good.log.nodes in
            let settled = settled_stands image is in
            let same : take 1 s.ops ≡ s.ops = opens.good.ops.begins ∙ sym ops_one in
            let wider = full_wider mmr sha bytes_of meaning (take 1 s.ops) s.prune s.prune 1 s.durable 1 s.node_durable
            (image.log view.name) (image.log nodes) (image.map metadata) (omega arith) (omega (arith, nothing))
            (omega (arith, nothing, less)) settled in
            let all_is = subst (λ (ops : List Operation). FullStands mmr sha bytes_of meaning ops s.prune s.durable
            s.node_durable (image.log view.name) (image.log nodes) (image.map metadata)) same wider in
            to_list image all_is

        none_keep : (r : Result FullView (Error Mmr)) → tells → InitBegins r
            → Keeps (NamesLeft Own) (NamesStandFor view.name nodes metadata s) old new
        none_keep r told init =
            keeps_weaker (NamesLeft Own) (Stands s.ops Marked) (NamesStandFor view.name nodes metadata s) old new
            of_list
            (steps_keep Own (Stands s.ops Marked) Settled old new r settled_before (first_steps {r = r} told init))

        sized : (db : FullView) → tells → InitOpens db → db.state.size ≡ 1
        sized db told init = by (init told).2
          where
            end_none : (init told).0 ≡ 0
            end_none = (let le = ends_within meaning Kept cap (init told).0 (init told).1 in omega (arith, le, none))

            by : IsBuiltAt plain_commit (init told).0 db → db.state.size ≡ 1
            by (inl is) = absurd (let more = is.0 in omega (arith, more, end_none))
            by (inr is) = is.1

        none_settle : (db : FullView) → tells → InitBegins (Ok db) → InitOpens db
            → StandNow view.name nodes metadata (settled_at s db.state.size) new
        none_settle db told init at =
            let r : Result FullView (Error Mmr) = Ok db in
            let steps = first_steps {r = r} told init in
            let now = turned_after (NamesLeft Own) (Stands s.ops Marked) Settled old new steps.ok in
            subst (λ (n : ℕ). StandNow view.name nodes metadata (settled_at s n) new) (sym (sized db told at))
            (λ image is. settled_stands image (now image is))

      -- ---- either way

      pub left_keep : (r : Result FullView (Error Mmr)) → tells → InitKeeps → InitBegins r
          → Keeps (NamesLeft Own) (NamesStandFor view.name nodes metadata s) old new
      left_keep r told init begin = by (some_or_none End)
        where
          by : (0 < End) ⊎ (End ≡ 0) → Keeps (NamesLeft Own) (NamesStandFor view.name nodes metadata s) old new
          by (inl more) = some_keep told init more
          by (inr none) = none_keep none r told begin

      left_settle : (db : FullView) → tells → InitSettles db → InitBegins (Ok db) → InitOpens db
          → StandNow view.name nodes metadata (settled_at s db.state.size) new
      left_settle db told init begin at = by (some_or_none End)
        where
          by : (0 < End) ⊎ (End ≡ 0) → StandNow view.name nodes metadata (settled_at s db.state.size) new
          by (inl more) = some_settle told db init more
          by (inr none) = none_settle none db told begin at

    pub keeps_left : (r : Result FullView (Error Mmr)) → (tells → LeftAt old old.clock (present old)) → InitKeeps
        → InitBegins r → tells → (s : State Operation) → OpensGood view.codec.max cap s
        → StandNow view.name nodes metadata s old
        → Keeps (NamesLeft Own) (NamesStandFor view.name nodes metadata s) old new
    keeps_left r left init begin told s opens has = left_keep s opens (left told) has r told init begin

    pub settles_left : (r : Result FullView (Error Mmr)) → (tells → LeftAt old old.clock (present old))
        → IfOk r InitSettles → InitBegins r → IfOk r InitOpens
        → IfOk r (λ db. tells → (s : State Operation) → OpensGood view.codec.max cap s
        → StandNow view.name nodes metadata s old
        → StandNow view.name nodes metadata (settled_at s db.state.size) new)
    settles_left (Ok db) left init begin at = λ told s opens has.
        left_settle s opens (left told) has db told init begin at
    settles_left (Err e) left init begin at = tt
