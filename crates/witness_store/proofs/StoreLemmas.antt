-- What a crash leaves of a log of witnesses, from call to call.
use Rattle.std.proofs.Common.{◌≡◌, ◌⊎◌, inl, inr, ℕ, zero, suc, ◌-◌, ◌≤◌, max, min, List, [], ◌∷◌, ◌++◌, length, map, take, refl, sym, ◌∙◌, ap, subst, arith}
use Rattle.std.specs.Prelude.{Result, Ok, Err, OnOk}
use Rattle.std.proofs.lemmas.List.{map-append, length-map, drop_all}
use Rattle.std.proofs.Math.Nat.{mul-div-le}
use Rattle.journal_base.specs.Blobs.{blob_start}
use Rattle.journal_base.specs.Items.{Spells}
use Rattle.journal_base.specs.View.{View, IsHeld}
use Rattle.volume_base.specs.Bounds.{IsRunOf, IsPartOf}
use Rattle.volume_base.specs.Log.{Log, end_of, cleared_at, appended, pruned_to, Grows, Shrinks, Advances, Stays, BecomesOneOf}
use Rattle.volume_base.specs.Moments.{LogHas, LogLeft, LogKeeps, LogTurns, Steps}
use Rattle.volume_base.specs.Volume.{State, LogMoves, LogCall, OnlyLeft, Reads}
use Rattle.volume_base.proofs.BoundLemmas.{part_grows, part_shrinks, part_wider, part_of_all}
use Rattle.volume_base.proofs.CallLemmas.{log_call_read, log_call_after_read, log_call_joins}
use Rattle.volume_base.proofs.MomentLemmas.{log_moves, past_joins}
use Rattle.volume_base.proofs.StepLemmas.{log_is}
use Rattle.volume_base.proofs.SyncLemmas.{turns_at_sync}
use Rattle.volume_base.proofs.TurnLemmas.{steps_of_turns}
use Rattle.witness_store.specs.StoreView.{IsRestarted, Restarts}

-- an item more behind a list of items
pub part_appended : {A : Type 0} (spelling : A → List ℕ) (list : List A) (x : A) (name : List ℕ) (greatest least : ℕ) (a b : State) → LogMoves name (Grows (a.log name) (spelling x ∷ [])) a b → Spells spelling list (a.log name)
    → LogHas a name (IsPartOf (map spelling list) greatest least) → LogKeeps name (IsPartOf (map spelling (list ++ x ∷ [])) greatest least) a b
part_appended spelling list x name greatest least a b moves run has =
    subst (λ (texts : List (List ℕ)). LogKeeps name (IsPartOf texts greatest least) a b) (sym (map-append spelling list (x ∷ [])))
    (log_moves name (Grows (a.log name) (spelling x ∷ [])) (IsPartOf (map spelling list) greatest least) (IsPartOf (map spelling list ++ spelling x ∷ []) greatest least) a b moves has
    (λ old new part goes. part_grows (map spelling list) (spelling x ∷ []) (a.log name) old new greatest least run goes part))

-- a cut that leaves what is durable
pub part_cut : (list : List (List ℕ)) (name : List ℕ) (greatest least end : ℕ) (a b : State) → LogMoves name (Shrinks (min end (end_of (a.log name)))) a b → a.log_left a.clock name (a.log name) → least ≤ end
    → LogHas a name (IsPartOf list greatest least) → LogKeeps name (IsPartOf list greatest least) a b
part_cut list name greatest least end a b moves here le has =
    let low = (has (a.log name) here).end_low in
    let to = min end (end_of (a.log name)) in
    let same : least ≤ min least to = omega (arith, le, low) in
    log_moves name (Shrinks to) (IsPartOf list greatest least) (IsPartOf list greatest least) a b moves has
    (λ old new part goes. part_wider list greatest greatest (min least to) least new (omega arith) same (part_shrinks list old new greatest least to goes part))

pub blob_low : (blob n : ℕ) → blob_start blob n ≤ n
blob_low blob n = mul-div-le n blob

-- where the log is as before, the bounds are still its own
pub held_later : {C : Type 0} (view : View C) (a b : State) → b.log view.name ≡ a.log view.name → IsHeld view a → IsHeld view b
held_later view a b same held = record {
  start_is = held.start_is ∙ ap (λ (l : Log). l.start) (sym same);
  end_is = subst (λ (l : Log). view.end ≡ end_of l) (sym same) held.end_is;
}

-- a sync, and then a prune
pub part_pruned : {A T E : Type 0} (spelling : A → List ℕ) (list : List A) (name : List ℕ) (greatest least last to : ℕ) (a b c : State) (result : Result T E) → LogMoves name Stays a b → LogHas a name (IsPartOf (map spelling list) greatest least) → a.log_left a.clock name (a.log name)
    → b.log name ≡ a.log name → Spells spelling list (a.log name) → OnlyLeft (b.log_left b.clock name) (b.log name) → to ≤ last → LogMoves name (Advances to) b c
    → Steps (LogLeft name) (IsPartOf (map spelling list) greatest least) (IsPartOf (map spelling list) (max greatest last) (length list)) a c result
part_pruned spelling list name greatest least last to a b c result synced has here same run only low pruned =
    let texts = map spelling list in
    let start = (has (a.log name) here).start_high in
    let all = part_of_all texts name greatest b (subst (IsRunOf texts) (sym same) run) (subst (λ (l : Log). l.start ≤ greatest) (sym same) start) only in
    let turns = turns_at_sync name texts greatest least last to a b c synced has all low pruned in
    steps_of_turns (LogLeft name) (IsPartOf texts greatest least) (IsPartOf texts (max greatest last) (length list)) a c result (past_joins a b c synced.past pruned.past)
    (subst (λ (n : ℕ). LogTurns name (IsPartOf texts greatest least) (IsPartOf texts (max greatest last) n) a c) (length-map list spelling) turns)

-- a clear, and then an item behind the empty log
pub restarts_cleared : (place : ℕ) (text : List ℕ) (old new : Log) → BecomesOneOf (cleared_at place) old new → Restarts place text old new
restarts_cleared place text old new (inl same) = inl same
restarts_cleared place text old new (inr made) = inr (inl made)

one_behind : (place count : ℕ) (text : List ℕ) (new : Log) → new ≡ appended (cleared_at place) (take count (text ∷ [])) → (new ≡ cleared_at place) ⊎ (new ≡ appended (cleared_at place) (text ∷ []))
one_behind place zero text new is = inl is
one_behind place (suc zero) text new is = inr is
one_behind place (suc (suc count)) text new is = inr is

still_empty : (place start : ℕ) → start ≤ place → pruned_to (cleared_at place) start ≡ cleared_at place
still_empty place start le =
    let same : max place start ≡ place = omega (arith, le) in
    log_is (pruned_to (cleared_at place) start) (cleared_at place) same (drop_all (start - place) [] (omega arith))

pub restarts_grown : (place : ℕ) (text : List ℕ) (old mid new : Log) → BecomesOneOf (cleared_at place) old mid → Grows (cleared_at place) (text ∷ []) mid new → Restarts place text old new
restarts_grown place text old mid new first (inl same) = subst (λ (l : Log). Restarts place text old l) (sym same) (restarts_cleared place text old mid first)
restarts_grown place text old mid new first (inr (start, count, le, back, is)) =
    let empty : mid ≡ cleared_at place = back ∙ still_empty place start (omega (arith, le)) in
    inr (one_behind place count text new (is ∙ ap (λ (l : Log). appended l (take count (text ∷ []))) empty))

restarts_same : (place : ℕ) (text : List ℕ) (log : Log) → Restarts place text log log
restarts_same place text log = inl refl

-- the bounds are read, the log is cleared, and the item stands behind it
pub restart_read : {T E : Type 0} (tells : Type 0) (fault : E) (name : List ℕ) (place : ℕ) (text : List ℕ) (a b : State) (answer : Result T E) → Reads tells fault a b answer → tells → LogCall name (Restarts place text) a b
restart_read tells fault name place text a b answer read told = log_call_read tells fault name (Restarts place text) (restarts_same place text) a b answer read told

pub restart_call : {T E : Type 0} (tells : Type 0) (fault : E) (name : List ℕ) (place : ℕ) (text : List ℕ) (a b c d : State) (answer : Result T E) → Reads tells fault a b answer → tells → LogCall name (BecomesOneOf (cleared_at place)) b c → c.log name ≡ cleared_at place → LogCall name (Grows (c.log name) (text ∷ [])) c d
    → LogCall name (Restarts place text) a d
restart_call tells fault name place text a b c d answer read told cleared empty grown =
    log_call_after_read tells fault name (Restarts place text) (restarts_same place text) a b answer read d told
    (log_call_joins name (BecomesOneOf (cleared_at place)) (Grows (cleared_at place) (text ∷ [])) (Restarts place text) b c d cleared
    (subst (λ (l : Log). LogCall name (Grows l (text ∷ [])) c d) empty grown) (restarts_cleared place text) (restarts_grown place text))

restarted_from : (place : ℕ) (text : List ℕ) (old new : Log) → old ≡ cleared_at place → Grows (cleared_at place) (text ∷ []) old new → IsRestarted place text new
restarted_from place text old new was (inl same) = inl (same ∙ was)
restarted_from place text old new was (inr (start, count, le, back, is)) = one_behind place count text new (is ∙ ap (λ (l : Log). appended l (take count (text ∷ []))) was)

-- where nothing but the empty log was left
pub restart_left : (name : List ℕ) (place : ℕ) (text : List ℕ) (c d : State) → OnlyLeft (c.log_left c.clock name) (cleared_at place) → c.log name ≡ cleared_at place → LogCall name (Grows (c.log name) (text ∷ [])) c d
    → LogHas d name (IsRestarted place text)
restart_left name place text c d only empty grown =
    let call = subst (λ (l : Log). LogCall name (Grows l (text ∷ [])) c d) empty grown in
    let keeps = log_moves name (Grows (cleared_at place) (text ∷ [])) (λ l. l ≡ cleared_at place) (IsRestarted place text) c d call.images only (restarted_from place text) in
    λ log is. keeps.during d.clock log call.images.past.later (omega arith) is

-- what holds whatever is answered
pub whatever : {A E : Type 0} (r : Result A E) (P : Type 0) → P → OnOk r P
whatever (Ok a) P is = is
whatever (Err e) P is = tt
