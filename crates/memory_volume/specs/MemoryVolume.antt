-- The meanings of a volume in memory.
use Rattle.std.specs.Prelude.{◌≡◌, ◌+◌, ◌-◌, ◌^◌, List, [], ◌∷◌, ◌++◌, min, Result, OnOk, OnErr, IsErrOf, Contains}
use Rattle.volume_base.specs.Volume.{State}
use Rattle.volume_base.specs.declared.error.VolumeError.{VolumeError}
use Rattle.volume_base.specs.declared.error.VolumeError.TheVariants.{Failed}
use Rattle.stream_base.specs.Failing.{Failing, after_call}
use Rattle.memory_volume.specs.Memory.{memory_state}
use Rattle.memory_volume.specs.declared.entry.Entry.{Entry}
use Rattle.memory_volume.specs.declared.memory.MemoryVolume.{MemoryVolume}

-- the calls that wrote or synced, the oldest first
abbrev pub calls_of : MemoryVolume → List Entry
calls_of volume = volume.calls.items

-- the calls that are set to fail, and how often one has failed
abbrev pub failing_of : MemoryVolume → Failing
failing_of volume = volume.failing

abbrev pub state_of : MemoryVolume → State
state_of volume = memory_state volume.calls.items volume.failing volume.reads

-- A call is behind the record exactly where it answers Ok, and the count of reads stays.
pub record Records {T E : Type 0} (call : Entry) (old new : MemoryVolume) (result : Result T E) : Type 0 where
  pub ok : OnOk result (calls_of new ≡ calls_of old ++ call ∷ [])
  pub err : OnErr result (calls_of new ≡ calls_of old)
  pub reads : (state_of new).reads ≡ (state_of old).reads

-- A call fails where it is set to, and there alone; a failure is counted once, and nothing else is.
pub record FailsAsSet {T : Type 0} (old new : MemoryVolume) (result : Result T VolumeError) : Type 0 where
  pub set : Contains (failing_of old).ahead 1 → IsErrOf result Failed
  pub only_set : IsErrOf result Failed → Contains (failing_of old).ahead 1
  pub ahead : (failing_of new).ahead ≡ after_call (failing_of old).ahead
  pub counted : IsErrOf result Failed → (failing_of new).faults ≡ min ((failing_of old).faults + 1) (2 ^ 64 - 1)
  pub kept : (IsErrOf result Failed → ⊥) → (failing_of new).faults ≡ (failing_of old).faults
