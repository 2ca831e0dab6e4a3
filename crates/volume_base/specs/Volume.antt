-- What a volume means: its contents by name, the clock, what a crash may leave at each moment, and two counts.
use Rattle.std.specs.Prelude.{◌≡◌, ◌≢◌, ◌↔◌, ℕ, ◌<◌, ◌≤◌, List, Result, IsErrOf, OnOk}
use Rattle.std.specs.Ordering.{nat_cmp}
use Rattle.std.specs.Cmp.Lexicographic.{slice_cmp}
use Rattle.std.specs.FinMap as map
use Rattle.codec_base.specs.Causes.{Rose}
use Rattle.volume_base.specs.Log.{Log}
use Rattle.volume_base.specs.declared.error.VolumeError.{VolumeError}
use Rattle.volume_base.specs.declared.error.VolumeError.TheVariants.{Memory, ItemPruned, ItemOutOfRange}

-- a map from byte lists to byte lists
abbrev pub Map : Type 0
Map = map.FinMap (slice_cmp nat_cmp) (List ℕ)

-- What a volume stands for. A log or map that isn't there is empty.
pub record State : Type 1 where
  -- what the calls read now, by the name's bytes
  pub log : List ℕ → Log
  pub map : List ℕ → Map
  -- a number that never falls
  pub clock : ℕ
  -- whether a crash at that moment may leave this of the log, or map, of that name
  pub log_left : ℕ → List ℕ → Log → Type 0
  pub map_left : ℕ → List ℕ → Map → Type 0
  -- how often the outside has failed, and how often an item was asked for
  pub faults : ℕ
  pub reads : ℕ
  -- whether nothing is set to fail
  pub steady : Type 0

-- The contents of each name are as before.
pub record SameContents (old new : State) : Type 0 where
  pub logs : (name : List ℕ) → new.log name ≡ old.log name
  pub maps : (name : List ℕ) → new.map name ≡ old.map name

-- Of the logs at most this one has changed, and of the maps none.
pub record OnlyLog (name : List ℕ) (old new : State) : Type 0 where
  pub logs : (other : List ℕ) → other ≢ name → new.log other ≡ old.log other
  pub maps : (other : List ℕ) → new.map other ≡ old.map other

-- Of the maps at most this one has changed, and of the logs none.
pub record OnlyMap (name : List ℕ) (old new : State) : Type 0 where
  pub logs : (other : List ℕ) → new.log other ≡ old.log other
  pub maps : (other : List ℕ) → other ≢ name → new.map other ≡ old.map other

-- The clock hasn't fallen, and at each moment up to the old one a crash may leave exactly what it might have left.
pub record PastStays (old new : State) : Type 0 where
  pub later : old.clock ≤ new.clock
  pub logs : (t : ℕ) (name : List ℕ) (log : Log) → t ≤ old.clock → (new.log_left t name log ↔ old.log_left t name log)
  pub maps : (t : ℕ) (name : List ℕ) (m : Map) → t ≤ old.clock → (new.map_left t name m ↔ old.map_left t name m)

-- At each moment from old to new this log, or map, has the images of before.
abbrev pub LogStays : List ℕ → State → State → Type 0
LogStays name old new =
    (t : ℕ) (log : Log) → old.clock ≤ t → t ≤ new.clock → (new.log_left t name log ↔ old.log_left old.clock name log)

abbrev pub MapStays : List ℕ → State → State → Type 0
MapStays name old new =
    (t : ℕ) (m : Map) → old.clock ≤ t → t ≤ new.clock → (new.map_left t name m ↔ old.map_left old.clock name m)

-- one of these, after a step
abbrev pub Follows : {A : Type 0} → (A → Type 0) → (A → A → Type 0) → A → Type 0
Follows {A} images step new = (old : A) × images old × step old new

-- At each moment of a call on a log an image of it follows by this step from one of before the call.
-- Every other log and every map has the images of before.
pub record LogMoves (name : List ℕ) (step : Log → Log → Type 0) (old new : State) : Type 0 where
  pub past : PastStays old new
  pub this : (t : ℕ) (log : Log) → old.clock ≤ t → t ≤ new.clock
      → new.log_left t name log → Follows (old.log_left old.clock name) step log
  pub logs : (t : ℕ) (other : List ℕ) (log : Log) → old.clock ≤ t → t ≤ new.clock
      → other ≢ name → (new.log_left t other log ↔ old.log_left old.clock other log)
  pub maps : (t : ℕ) (other : List ℕ) (m : Map) → old.clock ≤ t → t ≤ new.clock
      → (new.map_left t other m ↔ old.map_left old.clock other m)

-- The same for a call on a map.
pub record MapMoves (name : List ℕ) (step : Map → Map → Type 0) (old new : State) : Type 0 where
  pub past : PastStays old new
  pub this : (t : ℕ) (m : Map) → old.clock ≤ t → t ≤ new.clock
      → new.map_left t name m → Follows (old.map_left old.clock name) step m
  pub logs : (t : ℕ) (other : List ℕ) (log : Log) → old.clock ≤ t → t ≤ new.clock
      → (new.log_left t other log ↔ old.log_left old.clock other log)
  pub maps : (t : ℕ) (other : List ℕ) (m : Map) → old.clock ≤ t → t ≤ new.clock
      → other ≢ name → (new.map_left t other m ↔ old.map_left old.clock other m)

-- A call on one log: every other log and every map stays, in contents and images, and at each moment an image of this
-- log follows by this step from one of before.
pub record LogCall (name : List ℕ) (step : Log → Log → Type 0) (old new : State) : Type 0 where
  pub others : OnlyLog name old new
  pub images : LogMoves name step old new

-- The same for a call on one map.
pub record MapCall (name : List ℕ) (step : Map → Map → Type 0) (old new : State) : Type 0 where
  pub others : OnlyMap name old new
  pub images : MapMoves name step old new

-- A crash now leaves this and nothing else.
abbrev pub OnlyLeft : {A : Type 0} → (A → Type 0) → A → Type 0
OnlyLeft {A} images contents = (image : A) → images image → image ≡ contents

-- A volume with nothing set to fail stays so, and its count of faults stays.
pub record StaysSteady (old new : State) : Type 0 where
  pub steady : new.steady
  pub faults : new.faults ≡ old.faults

-- What every call that writes says, whatever it answers. A call that leaves the clock leaves the contents,
-- this fault has its cause in the count, and a call that succeeds counts no fault.
pub record Writes {T E : Type 0} (tells : Type 0) (fault : E) (old new : State) (result : Result T E) : Type 0 where
  pub later : old.clock ≤ new.clock
  pub still : tells → new.clock ≡ old.clock → SameContents old new
  pub reads : new.reads ≡ old.reads
  pub faults : old.faults ≤ new.faults
  pub failed : IsErrOf result fault → Rose old.faults new.faults
  pub kept : OnOk result (new.faults ≡ old.faults)
  pub steady : old.steady → StaysSteady old new

-- What a call says that writes and may read, whatever it answers: as `Writes`, but the count of reads may rise.
pub record Changes {T E : Type 0} (tells : Type 0) (fault : E) (old new : State) (result : Result T E) : Type 0 where
  pub later : old.clock ≤ new.clock
  pub still : tells → new.clock ≡ old.clock → SameContents old new
  pub faults : old.faults ≤ new.faults
  pub failed : IsErrOf result fault → Rose old.faults new.faults
  pub kept : OnOk result (new.faults ≡ old.faults)
  pub reads : old.reads ≤ new.reads
  pub steady : old.steady → StaysSteady old new

-- What a call that writes one log, or one map, says of that and of all the rest, whatever it answers.
pub record WritesLog {T E : Type 0} (tells : Type 0) (fault : E) (name : List ℕ) (step : Log → Log → Type 0)
    (old new : State) (result : Result T E) : Type 0 where
  pub log : tells → LogCall name step old new
  pub writes : Writes tells fault old new result

pub record WritesMap {T E : Type 0} (tells : Type 0) (fault : E) (name : List ℕ) (step : Map → Map → Type 0)
    (old new : State) (result : Result T E) : Type 0 where
  pub map : tells → MapCall name step old new
  pub writes : Writes tells fault old new result

-- What one call of a volume that writes says besides: the clock rises on Ok, want of memory leaves it,
-- and no other error comes than `Failed` and `Memory`.
pub record WriteAnswers {T : Type 0} (tells : Type 0) (old new : State) (result : Result T VolumeError) : Type 0 where
  pub rises : tells → OnOk result (old.clock < new.clock)
  pub memory : IsErrOf result Memory → new.clock ≡ old.clock
  pub not_pruned : (p : ℕ) → IsErrOf result (ItemPruned p) → ⊥
  pub not_out_of_range : (p : ℕ) → IsErrOf result (ItemOutOfRange p) → ⊥

-- A call that only reads leaves contents, clock and images, whatever it answers. This fault has its cause in the count,
-- a call that succeeds counts no fault, and the count of reads never falls.
pub record Reads {T E : Type 0} (tells : Type 0) (fault : E) (old new : State) (result : Result T E) : Type 0 where
  pub clock : new.clock ≡ old.clock
  pub past : tells → PastStays old new
  pub contents : tells → SameContents old new
  pub faults : old.faults ≤ new.faults
  pub failed : IsErrOf result fault → Rose old.faults new.faults
  pub kept : OnOk result (new.faults ≡ old.faults)
  pub reads : old.reads ≤ new.reads
  pub steady : old.steady → StaysSteady old new
