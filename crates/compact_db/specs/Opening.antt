-- At which state a compact database is opened, and why at none.
use Rattle.std.specs.Prelude.{◌≡◌, ◌⊎◌, ℕ, ◌-◌, ◌^◌, ◌<◌, ◌≤◌, false, List, [], ◌∷◌, length, map, take, Option, Some, None, Result, Ok, Err, IfOk, IfErr, OnOk, MatchOption, slice_get}
use Rattle.codec_base.specs.declared.error.CodecError.{CodecError}
use Rattle.journal_base.specs.Answers.{IsOfRead, IsOfSize}
use Rattle.journal_base.specs.Items.{Items, IsCorrupt}
use Rattle.journal_base.specs.View.{View, SameButBounds, IsHeld, IsDurable, log_of}
use Rattle.volume_base.specs.Log.{Log, end_of, no_log, cut_to, Shrinks}
use Rattle.volume_base.specs.Moments.{LogHas, LogKeeps}
use Rattle.volume_base.specs.Names.{log_alone, NamesCall}
use Rattle.volume_base.specs.Volume.{State, LogCall, Changes}
use Rattle.volume_base.specs.declared.error.JournalError.{JournalError}
use Rattle.volume_base.specs.declared.error.JournalError.TheVariants as journal_error
use Rattle.tree_shape.specs.Hashing.{Hashing}
use Rattle.tree_shape.specs.Shape.{Shape}
use Rattle.log_model.specs.Good.{EndsWithCommit}
use Rattle.log_model.specs.Meaning.{Meaning}
use Rattle.chain_core.specs.Answers.{IsOutside}
use Rattle.chain_core.specs.Errors.{from_journal}
use Rattle.chain_core.specs.declared.error.Error.{Error}
use Rattle.chain_core.specs.declared.error.Error.TheVariants.{Journal, HistoricalFloorPruned, DataCorrupted, Volume}
use Rattle.chain_core.specs.declared.error.DataFault.TheVariants as fault
use Rattle.witness_store.specs.Selected.{IsSelected, NoneWithin, IsLastWithin}
use Rattle.witness_store.specs.StoreView.{HasWitnesses, IsRestarted}
use Rattle.witness_store.specs.Witness.{IsAllowed, text_of}
use Rattle.witness_store.specs.Witnesses.{Keeps}
use Rattle.witness_store.specs.declared.witness.Witness.{Witness}
use Rattle.compact_db.specs.DbView.{DbView, seen_log, waits, is_uncommitted}
use Rattle.compact_db.specs.Held.{HasStates, IsHeldFor}
use Rattle.compact_db.specs.Rebuild.{rebuild_answer}
use Rattle.compact_db.specs.StateOf.{IsStateOf}
use Rattle.compact_db.specs.WitnessOf.{witness_of}
use Rattle.compact_db.specs.declared.database.WitnessLog.{WitnessLog}

-- ---- caps on sizes

-- A size is within a cap, or there is none.
abbrev pub IsCapped : Option ℕ → ℕ → Type 0
IsCapped None n = Unit {0}
IsCapped (Some cap) n = n ≤ cap

-- A size is above a cap.
abbrev pub IsPast : Option ℕ → ℕ → Type 0
IsPast None n = ⊥
IsPast (Some cap) n = cap < n

-- Of the sizes that are kept from a start on this is the last within a cap, and so many sizes end with it: each behind
-- it is above the cap.
pub record IsLatest (sizes : List ℕ) (start : ℕ) (cap : Option ℕ) (count size : ℕ) : Type 0 where
  pub kept : start < count
  pub here : slice_get sizes (count - 1) ≡ Some size
  pub within : IsCapped cap size
  pub above : (i n : ℕ) → count ≤ i → slice_get sizes i ≡ Some n → IsPast cap n

-- ---- what is selected

-- the witnesses of a log
abbrev pub witnesses_in : {F D : Type 0} → (D → List ℕ) → (D → Type 0) → Log → Items (Witness F D)
witnesses_in spelling admits log = record { log = log; spelling = text_of spelling; admits = IsAllowed admits }

module _ {F D : Type 0} (items : Items (Witness F D)) (cap : Option ℕ) where
  -- What is selected of the witnesses of a log: one within the cap, behind which one above it stands or the log ends,
  -- with the end behind it; or none, and then the first is above the cap. Where the log keeps the witnesses of a list,
  -- it is the last within the cap.
  pub record IsChosen (found : Option (ℕ × Witness F D)) : Type 0 where
    pub here : MatchOption found (NoneWithin items items.log.start cap)
        (λ s. IsSelected items items.log.start (end_of items.log) cap (s.0, s.1))
    pub last : (ws : List (Witness F D)) → Keeps items ws → IsLastWithin ws items.log.start cap found

  -- Why none is selected: by the outside; one that is looked at is no witness; or the first is above the cap.
  abbrev pub WhyNoneChosen : Error F → Type 0
  WhyNoneChosen e = IsOutside e
      ⊎ (((p : ℕ) × IsCorrupt items p × (e ≡ Journal (journal_error.Corruption p)))
      ⊎ ((p : ℕ) × (cap ≡ Some p) × IsChosen None × (e ≡ HistoricalFloorPruned p)))

-- ---- on any contents

-- The first commit of a log: its floor is 0, and it has no metadata.
pub record IsFirstCommit {Op V : Type 0} (m : Meaning Op V) (op : Op) : Type 0 where
  pub floored : m.floor op ≡ Some 0
  pub valued : m.value op ≡ None

module _ {F D Op V : Type 0} (s : Shape) (m : Meaning Op V) (decoded : List ℕ → Result Op CodecError)
    (items : Items (Witness F D)) (cap : Option ℕ) where
  -- The database is at the state that the selected witness rebuilds, and the log ends behind it. Where that witness is
  -- a list's, whatever else the log has, the database is the list's.
  pub record IsOpenedAt {Cfg : Type 0} (h : Hashing D) (allowed : Op → Type 0) (db : DbView F D Op Cfg) (log : Log)
      : Type 0 where
    pub end : ℕ
    pub witness : Witness F D
    pub chosen : IsChosen items cap (Some (end, witness))
    pub rebuilt : rebuild_answer s m decoded witness ≡ Ok db.commit
    pub tip : db.tip.witness ≡ witness
    pub list : (ops : List Op) → EndsWithCommit m ops → length ops ≤ 2 ^ 62 →
        ((op : Op) → slice_get ops (length ops - 1) ≡ Some op → allowed op) →
        witness ≡ witness_of s h m ops (length ops) → IsStateOf s h m ops db.tip db.tree db.commit
    pub cut : log ≡ cut_to items.log end

  -- Why no witness is rebuilt: none is selected, or the selected one doesn't rebuild.
  abbrev pub WhyNotResumed : Error F → Type 0
  WhyNotResumed e = WhyNoneChosen items cap e
      ⊎ ((end : ℕ) × (w : Witness F D) × IsChosen items cap (Some (end, w)) × (rebuild_answer s m decoded w ≡ Err e))

  -- Why nothing is opened: by the outside; the log is empty past 0; or it isn't empty, and no witness is rebuilt.
  abbrev pub WhyNotOpened : Error F → Type 0
  WhyNotOpened e = IsOutside e
      ⊎ (((0 < items.log.start) × (items.log.items ≡ []) × (e ≡ DataCorrupted fault.NoTip))
      ⊎ ((0 < length items.log.items) × WhyNotResumed e))

-- What an opening may come to over any volume: a failure of the outside; an empty log past 0; a cap below the first
-- witness; a failed read, or write, of the log; or a witness that doesn't rebuild.
abbrev pub IsOpeningFault : {F Op V : Type 0} → (D : Type 0) → Shape → Meaning Op V → (List ℕ → Result Op CodecError)
    → Option ℕ → Error F → Type 0
IsOpeningFault {F} D s m decoded cap e = IsOutside e
    ⊎ ((e ≡ DataCorrupted fault.NoTip)
    ⊎ (((p : ℕ) × (cap ≡ Some p) × (e ≡ HistoricalFloorPruned p))
    ⊎ (((cause : JournalError) × (IsOfRead cause ⊎ IsOfSize cause) × (e ≡ from_journal cause))
    ⊎ ((w : Witness F D) × (rebuild_answer s m decoded w ≡ Err e)))))

-- What a log that begins with a text leaves of an image: a front of it, the empty log at 0, or that with the text.
abbrev pub BeginsWith : List ℕ → Log → Log → Type 0
BeginsWith text old new = Shrinks 0 old new ⊎ IsRestarted 0 text new

-- Of an image of an empty log at 0 an opening leaves a front, the empty log, or that with the witness of a first
-- commit.
abbrev pub Begins : {D Op V : Type 0} → Type 0 → Shape → Hashing D → Meaning Op V → (D → List ℕ) → Log → Log → Type 0
Begins {D} {Op} F s h m spelling old new = Shrinks 0 old new
    ⊎ ((op : Op) × IsFirstCommit m op × BeginsWith (text_of spelling (witness_of {F = F} s h m (op ∷ []) 1)) old new)

-- The log of an opened database is that of a view, open and durable.
pub record IsOpenLog {F D : Type 0} (tells : Type 0) (view : View (Unit {0})) (log : WitnessLog F D) (state : State)
    : Type 0 where
  pub opened : waits log ≡ false
  pub committed : is_uncommitted log ≡ false
  pub same : SameButBounds view (seen_log log)
  pub held : tells → IsHeld (seen_log log) state
  pub durable : tells → IsDurable view state

module _ {F D Op V Cfg : Type 0} (s : Shape) (h : Hashing D) (m : Meaning Op V) (spelling : D → List ℕ)
    (admits : D → Type 0)
    (decoded : List ℕ → Result Op CodecError) (allowed : Op → Type 0) (view : View (Unit {0})) (cap : Option ℕ) where
  -- What an opening under a cap comes to over a log with these contents.
  pub record OpensFrom (log : Log) (new : State) (result : Result (DbView F D Op Cfg) (Error F)) : Type 0 where
    -- An empty log past 0 isn't opened.
    pub tip : OnOk result (log.items ≡ [] → log.start ≡ 0)
    -- An empty log at 0 begins with the first commit's witness.
    pub begun : IfOk result (λ db. log ≡ no_log →
        IsFirstCommit m db.commit × IsHeldFor s h m spelling admits (db.commit ∷ []) (1 ∷ []) db new)
    -- Of another one the selected witness is rebuilt.
    pub resumed : IfOk result (λ db. 0 < length log.items →
        IsOpenedAt s m decoded (witnesses_in spelling admits log) cap h allowed db (log_of view new))
    -- A log that keeps the witnesses of a list is opened at the latest size within the cap, where its commit is
    -- allowed.
    pub held : IfOk result (λ db. (ops : List Op) (sizes : List ℕ) (count size : ℕ) →
        HasStates {F = F} s h m ops sizes (witnesses_in spelling admits log) → IsLatest sizes log.start cap count size →
        ((op : Op) → slice_get ops (size - 1) ≡ Some op → allowed op) →
        IsHeldFor s h m spelling admits (take size ops) (take count sizes) db new)
    pub refused : IfErr result (WhyNotOpened s m decoded (witnesses_in spelling admits log) cap)
    -- Where one is within the cap, it is refused by the outside alone, or as the list's witness of that size doesn't
    -- rebuild.
    pub damaged : (ops : List Op) (sizes : List ℕ) (count size : ℕ) →
        HasStates {F = F} s h m ops sizes (witnesses_in spelling admits log) → IsLatest sizes log.start cap count size →
        IfErr result (λ e. IsOutside e ⊎ (rebuild_answer s m decoded (witness_of {F = F} s h m ops size) ≡ Err e))

  -- What an opening under a cap other than 0 says of the log of a view, whatever it answers.
  pub record Opens (tells : Type 0) (old new : State) (result : Result (DbView F D Op Cfg) (Error F)) : Type 0 where
    pub log : IfOk result (λ db. IsOpenLog tells view db.log new)
    pub contents : tells → OpensFrom (log_of view old) new result
    -- A refusal comes before anything is written: nothing is cut off before the selected witness has been rebuilt.
    pub unwritten : tells → IfErr result (λ e. IsOutside e ⊎ (new.clock ≡ old.clock))
    pub names : tells → NamesCall (log_alone view.name) old new
    -- Where the log has a front of a list's witnesses, and nothing durable is above the cap, at each moment a crash
    -- leaves a part of the list within the bounds of before.
    pub images : tells → (ops : List Op) (sizes : List ℕ) (count size greatest least : ℕ) →
        let log = log_of view old in
        let here = take (end_of log) sizes in
        HasStates {F = F} s h m ops here (witnesses_in spelling admits log) →
        IsLatest here log.start cap count size → least ≤ count →
        let ws = map (witness_of {F = F} s h m ops) sizes in
        LogHas old view.name (HasWitnesses spelling ws greatest least) →
        LogKeeps view.name (HasWitnesses spelling ws greatest least) old new
    pub first : tells → log_of view old ≡ no_log → LogCall view.name (Begins F s h m spelling) old new
    -- Over whatever volume it fails by one of these alone.
    pub errors : IfErr result (IsOpeningFault D s m decoded cap)
    pub changes : Changes tells Volume old new result
