-- A log and a map over an append, a sync and a replacement.
use Rattle.std.proofs.Common.{◌≡◌, ◌⊎◌, inl, inr, ℕ, List, take, sym, ◌∙◌, ap, subst, refl, arith}
use Rattle.std.specs.Prelude.{Result, Ok, Err, OnOk}
use Rattle.std.specs.Result.{IsErrAnd}
use Rattle.std.proofs.lemmas.List.{append-nil}
use Rattle.volume_base.specs.Log.{Log, appended, Grows, Stays, BecomesOneOf}
use Rattle.volume_base.specs.Moments.{Image, NamesLeft, Now, Keeps}
use Rattle.volume_base.specs.Names.{Names, log_and_map, NamesCall}
use Rattle.volume_base.specs.Volume.{State, Map, LogMoves, MapMoves, LogCall, MapCall, OnlyLeft}
use Rattle.volume_base.proofs.CallLemmas.{names_call_log, names_call_map, names_call_joins}
use Rattle.volume_base.proofs.ImageLemmas.{with_log_here, with_map_here}
use Rattle.volume_base.proofs.MomentLemmas.{past_joins}
use Rattle.volume_base.proofs.NameLemmas.{names_move_log, names_move_map}
use Rattle.volume_base.proofs.SyncLemmas.{names_synced}
use Rattle.volume_base.proofs.TurnLemmas.{names_back, keeps_none, keeps_joins, now_after, turns_at, steps_of_keeps, steps_of_turns}
use Rattle.marked_log.specs.MarkedLog.{AreDurable, IsUnmarked, IsWhole, Marks}

pub not_ok : {T E : Type 0} (result : Result T E) (P : E → Type 0) → IsErrAnd result P → OnOk result ⊥
not_ok (Ok answer) P is = absurd is
not_ok (Err error) P is = tt

nothing_more : (log : Log) → log ≡ appended log (take 0 log.items)
nothing_more log = ap (λ (l : List (List ℕ)). let made : Log = record { start = log.start; items = l } in made) (sym (append-nil log.items))

grown_is : (contents : Log) (items : List (List ℕ)) (log : Log) → Grows contents items contents log → (count : ℕ) × (log ≡ appended contents (take count items))
grown_is contents items log (inl same) = (0, same ∙ nothing_more contents)
grown_is contents items log (inr (start, count, le, was, is)) = (count, is)

-- every other name
module _ (log map : List ℕ) (items : List (List ℕ)) (mark : Map) (s0 s1 : State) (append : LogCall log (Grows (s0.log log) items) s0 s1) (s2 : State) (journal : List ℕ) (same : journal ≡ log) (sync : LogCall journal Stays s1 s2) where
  pub sync_call : NamesCall (log_and_map log map) s0 s2
  sync_call = names_call_joins (log_and_map log map) s0 s1 s2 (names_call_log (log_and_map log map) log (Grows (s0.log log) items) s0 s1 (inl refl) append) (names_call_log (log_and_map log map) journal Stays s1 s2 (inl same) sync)

  pub mark_call : (s3 : State) → MapCall map (BecomesOneOf mark) s2 s3 → NamesCall (log_and_map log map) s0 s3
  mark_call s3 replace = names_call_joins (log_and_map log map) s0 s2 s3 sync_call (names_call_map (log_and_map log map) map (BecomesOneOf mark) s2 s3 (inl refl) replace)

-- what the sync made durable stays so over the replacement, and the mark is durable too
pub durable_marked : (log journal map : List ℕ) (mark : Map) (s2 s3 : State) → journal ≡ log → OnlyLeft (s2.log_left s2.clock journal) (s2.log journal) → MapCall map (BecomesOneOf mark) s2 s3 → OnlyLeft (s3.map_left s3.clock map) mark → s3.map map ≡ mark → AreDurable log map s3
durable_marked log journal map mark s2 s3 same only replace only_mark is =
    let there : OnlyLeft (s2.log_left s2.clock log) (s2.log log) = subst (λ (n : List ℕ). OnlyLeft (s2.log_left s2.clock n) (s2.log n)) same only in
    record {
      items = λ image left. there image ((replace.images.logs s3.clock log image replace.images.past.later (omega arith)).0 left) ∙ sym (replace.others.logs log);
      mark = λ image left. only_mark image left ∙ sym is;
    }

module _ {T E : Type 0} (log map : List ℕ) (items : List (List ℕ)) (mark : Map) (result : Result T E) (s0 : State) (durable : AreDurable log map s0) where
  abbrev names : Names
  names = log_and_map log map

  abbrev Before : Image → Type 0
  Before = IsUnmarked log map (s0.log log) items (s0.map map)

  abbrev Behind : Image → Type 0
  Behind = IsWhole log map (appended (s0.log log) items) (s0.map map) mark

  at_first : Now (NamesLeft names) Before s0
  at_first image at = record { front = (0, durable.items (image.log log) at.logs.0 ∙ nothing_more (s0.log log)); map_is = durable.mark (image.map map) at.maps.0 }

  -- nothing is written
  pub none_marked : OnOk result ⊥ → Marks log map items mark s0 s0 result
  none_marked failed = steps_of_keeps (NamesLeft names) Before Behind s0 s0 result failed (keeps_none (NamesLeft names) Before s0 at_first)

  module _ (s1 : State) (append : LogMoves log (Grows (s0.log log) items) s0 s1) where
    appending : Keeps (NamesLeft names) Before s0 s1
    appending = names_move_log names log (λ image. (image.log log ≡ s0.log log) × (image.map map ≡ s0.map map)) Before s0 s1 (Grows (s0.log log) items) (inl refl) append
        (λ image at. (durable.items (image.log log) at.logs.0, durable.mark (image.map map) at.maps.0))
        (λ image was held goes. record {
          front = grown_is (s0.log log) items (image.log log) (subst (λ (l : Log). Grows (s0.log log) items l (image.log log)) (sym (with_log_here log was image) ∙ held.0) goes);
          map_is = held.1;
        })

    pub append_marks : OnOk result ⊥ → Marks log map items mark s0 s1 result
    append_marks failed = steps_of_keeps (NamesLeft names) Before Behind s0 s1 result failed appending

    -- the journal that is synced has the log's name
    module _ (s2 : State) (journal : List ℕ) (same : journal ≡ log) (moves : LogMoves journal Stays s1 s2) where
      sync : LogMoves log Stays s1 s2
      sync = subst (λ (n : List ℕ). LogMoves n Stays s1 s2) same moves

      syncing : Keeps (NamesLeft names) Before s0 s2
      syncing = keeps_joins (NamesLeft names) (names_back names) Before s0 s1 s2 appending
          (names_synced names log Before s1 s2 (inl refl) sync (now_after (NamesLeft names) Before s0 s1 appending))

      pub sync_marks : OnOk result ⊥ → Marks log map items mark s0 s2 result
      sync_marks failed = steps_of_keeps (NamesLeft names) Before Behind s0 s2 result failed syncing

      -- the sync has answered: here it turns
      module _ (s3 : State) (durable_now : OnlyLeft (s2.log_left s2.clock journal) (s2.log journal)) (contents : s2.log journal ≡ s1.log journal) (all : s1.log log ≡ appended (s0.log log) items) (replace : MapMoves map (BecomesOneOf mark) s2 s3) where
        only : OnlyLeft (s2.log_left s2.clock log) (s2.log log)
        only = subst (λ (n : List ℕ). OnlyLeft (s2.log_left s2.clock n) (s2.log n)) same durable_now

        whole : s2.log log ≡ appended (s0.log log) items
        whole = subst (λ (n : List ℕ). s2.log n ≡ s1.log n) same contents ∙ all

        marking : Keeps (NamesLeft names) Behind s2 s3
        marking = names_move_map names map (λ image. (image.log log ≡ appended (s0.log log) items) × (image.map map ≡ s0.map map)) Behind s2 s3 (BecomesOneOf mark) (inl refl) replace
            (λ image at. (only (image.log log) at.logs.0 ∙ whole, (now_after (NamesLeft names) Before s0 s2 syncing image at).map_is))
            (λ image was held goes. record { log_is = held.0; map_is = of_map (image.map map) was (sym (with_map_here map was image) ∙ held.1) goes })
          where
            of_map : (now was : Map) → was ≡ s0.map map → BecomesOneOf mark was now → (now ≡ s0.map map) ⊎ (now ≡ mark)
            of_map now was is (inl same) = inl (same ∙ is)
            of_map now was is (inr this) = inr this

        pub map_marks : Marks log map items mark s0 s3 result
        map_marks = let turns = turns_at (NamesLeft names) (names_back names) Before Behind s0 s2 s3 syncing marking in
            steps_of_turns (NamesLeft names) Before Behind s0 s3 result (past_joins s0 s2 s3 syncing.past marking.past) turns
