-- How the witness log of a compact database is written.
use Rattle.std.specs.Prelude.{◌≡◌, ◌⊎◌, ℕ, ◌-◌, ◌^◌, List, [], ◌∷◌, true, false, Result, Ok, Err, IfErr, IsErrOf}
use Rattle.journal_base.specs.View.{config_of, log_of, SameLog, IsDurable}
use Rattle.journal_base.specs.declared.ticket.SyncTicket.{SyncTicket}
use Rattle.journal_base.specs.declared.ticket.SyncTicket.TheVariants.{Done, Failed}
use Rattle.volume_base.specs.Log.{Log, end_of, cleared_at, appended, Grows, Stays}
use Rattle.volume_base.specs.Volume.{State, LogCall, Writes}
use Rattle.volume_base.specs.declared.error.JournalError.TheVariants as journal_error
use Rattle.chain_core.specs.Answers.{IsOutside}
use Rattle.chain_core.specs.declared.error.Error.{Error}
use Rattle.chain_core.specs.declared.error.Error.TheVariants.{Journal, Volume}
use Rattle.witness_store.specs.StoreView.{import_place, Restarts}
use Rattle.witness_store.specs.Witness.{text_of}
use Rattle.witness_store.specs.declared.witness.Witness.{Witness}
use Rattle.compact_db.specs.DbView.{seen_log, waits, is_uncommitted}
use Rattle.compact_db.specs.declared.database.WitnessLog.{WitnessLog}
use Rattle.compact_db.specs.declared.database.WitnessLog.TheVariants.{Open, Import}

-- a failure of the outside, want of memory, or an end past 2^64 - 1
abbrev pub IsOutsideOrFull : {F : Type 0} → Error F → Type 0
IsOutsideOrFull e = IsOutside e ⊎ (e ≡ Journal journal_error.SizeOverflow)

module _ {F D : Type 0} where
  -- where the witness stands that is written for an import
  abbrev pub place_in : WitnessLog F D → State → ℕ
  place_in log state = import_place (end_of (log_of (seen_log log) state))

  -- Where every witness is taken to be durable, a crash now leaves the log as it is.
  abbrev pub IsSettledLog : WitnessLog F D → State → Type 0
  IsSettledLog log state = is_uncommitted log ≡ false → IsDurable (seen_log log) state

  module _ (spelling : D → List ℕ) where
    -- the log with this witness more; where an import waits, with it alone
    abbrev pub written_log : WitnessLog F D → Witness F D → State → Log
    written_log (Open store) w state = appended (log_of store.log state) (text_of spelling w ∷ [])
    written_log (Import cfg) w state =
        appended (cleared_at (import_place (end_of (log_of (config_of cfg) state)))) (text_of spelling w ∷ [])

    -- An image gets this witness; where an import waits, the log restarts with it.
    abbrev pub Extends : WitnessLog F D → Witness F D → State → Log → Log → Type 0
    Extends (Open store) w state = Grows (log_of store.log state) (text_of spelling w ∷ [])
    Extends (Import cfg) w state = Restarts (import_place (end_of (log_of (config_of cfg) state))) (text_of spelling w)

    -- An image stays; where an import waits, the log restarts with this witness.
    abbrev pub Settles : WitnessLog F D → Witness F D → State → Log → Log → Type 0
    Settles (Open store) w state = Stays
    Settles (Import cfg) w state = Restarts (import_place (end_of (log_of (config_of cfg) state))) (text_of spelling w)

-- what the sync itself has come to
abbrev pub sync_of : {F : Type 0} → SyncTicket → Result (Unit {0}) (Error F)
sync_of Done = Ok tt
sync_of Failed = Err Volume

-- what a call that answers a ticket has come to: beside a failed ticket it is the volume's failure
abbrev pub outcome : {F T : Type 0} → Result (T × SyncTicket) (Error F) → Result (Unit {0}) (Error F)
outcome (Ok made) = sync_of made.1
outcome (Err error) = Err error

-- What a call that makes the witnesses durable says of the log, whatever it answers; the witness of an import that
-- waits is written before. A refusal by name comes before anything is written.
pub record SyncsLog {F D T : Type 0} (tells : Type 0) (spelling : D → List ℕ) (log : WitnessLog F D)
    (tip : Witness F D) (old new : State)
    (result : Result T (Error F)) : Type 0 where
  pub call : tells → LogCall (seen_log log).name (Settles spelling log tip old) old new
  pub contents : waits log ≡ false → tells → SameLog (seen_log log) old new
  pub full : tells → IsErrOf result (Journal journal_error.SizeOverflow)
      → (waits log ≡ true) × (end_of (log_of (seen_log log) old) ≡ 2 ^ 64 - 1) × (new.clock ≡ old.clock)
  -- Over whatever volume it is no such refusal where the log is open.
  pub waiting : IsErrOf result (Journal journal_error.SizeOverflow) → waits log ≡ true
  pub errors : IfErr result IsOutsideOrFull
  pub writes : Writes tells Volume old new result
