-- What a journal tells of itself.
use Rattle.std.specs.Prelude.{◌≡◌, ℕ, ◌≤◌, min, Bool, false, List, Option, Some, None, string_bytes}
use Rattle.std.specs.NonZero.{non_zero_u64_get}
use Rattle.journal_base.specs.declared.journal.Journal.{Journal}
use Rattle.journal_base.specs.declared.journal.JournalConfig.{JournalConfig}
use Rattle.journal_base.specs.declared.recovery.Recovery.{Recovery}
use Rattle.journal_base.specs.Blobs.{blob_start}
use Rattle.volume_base.specs.Log.{Log, end_of}
use Rattle.volume_base.specs.Volume.{State, OnlyLeft}

-- The name of its log, how many items its blobs have, what its items may be, its bounds, and whether it keeps a
-- failed sync.
pub record View (Codec : Type 0) : Type 0 where
  pub name : List ℕ
  pub blob : ℕ
  pub codec : Codec
  pub start : ℕ
  pub end : ℕ
  pub failed : Bool

-- what a journal tells
abbrev pub view_of : {T K Codec : Type 0} → Journal T K Codec → View Codec
view_of journal = record {
  name = string_bytes journal.name;
  blob = non_zero_u64_get journal.items_per_blob;
  codec = journal.codec;
  start = journal.start;
  end = journal.end;
  failed = journal.failed;
}

-- what a journal that is being opened tells
abbrev pub seen_of : {T K Codec : Type 0} → Recovery T K Codec → View Codec
seen_of recovery = view_of recovery.seen

-- what a configuration tells of a journal: it has no bounds yet, and keeps no failure
abbrev pub config_of : {Codec : Type 0} → JournalConfig Codec → View Codec
config_of cfg = record {
  name = string_bytes cfg.name;
  blob = non_zero_u64_get cfg.items_per_blob;
  codec = cfg.codec;
  start = 0;
  end = 0;
  failed = false;
}

-- its log as the volume has it
abbrev pub log_of : {Codec : Type 0} → View Codec → State → Log
log_of view state = state.log view.name

-- The log is as before.
abbrev pub SameLog : {Codec : Type 0} → View Codec → State → State → Type 0
SameLog view old new = log_of view new ≡ log_of view old

-- what a crash now leaves of its log
abbrev pub left_of : {Codec : Type 0} → View Codec → State → Log → Type 0
left_of view state = state.log_left state.clock view.name

-- A crash now leaves the log as it is.
abbrev pub IsDurable : {Codec : Type 0} → View Codec → State → Type 0
IsDurable view state = OnlyLeft (left_of view state) (log_of view state)

-- where a prune below a position lets the log begin: at the blob of that position, or at that of the end
abbrev pub prune_point : {Codec : Type 0} → View Codec → ℕ → State → ℕ
prune_point view least state = blob_start view.blob (min least (end_of (log_of view state)))

-- the same journal with other bounds
abbrev pub at_bounds : {Codec : Type 0} → View Codec → ℕ → ℕ → View Codec
at_bounds view start end = record view { start = start; end = end }

-- It is the same journal but for its bounds.
abbrev pub SameButBounds : {Codec : Type 0} → View Codec → View Codec → Type 0
SameButBounds old new = new ≡ at_bounds old new.start new.end

-- the same journal after a started sync
abbrev pub after_sync : {Codec : Type 0} → View Codec → Bool → View Codec
after_sync view failed = record view { failed = failed }

-- The volume has the log with these bounds.
pub record IsHeld {Codec : Type 0} (view : View Codec) (state : State) : Type 0 where
  pub start_is : view.start ≡ (log_of view state).start
  pub end_is : view.end ≡ end_of (log_of view state)

-- The volume has the log with this start, and the view ends within it.
pub record IsWithin {Codec : Type 0} (view : View Codec) (state : State) : Type 0 where
  pub start_is : view.start ≡ (log_of view state).start
  pub low : view.start ≤ view.end
  pub high : view.end ≤ end_of (log_of view state)

-- the end of a view of a log with this end, under a cap or none
abbrev pub capped : Option ℕ → ℕ → ℕ
capped None end = end
capped (Some cap) end = min cap end
