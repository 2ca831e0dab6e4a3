-- What a volume in memory stands for.
use Rattle.std.specs.Prelude.{◌≡◌, ℕ, List, length, take}
use Rattle.volume_base.specs.Volume.{State}
use Rattle.stream_base.specs.Failing.{Failing, IsSteady}
use Rattle.memory_volume.specs.Versions.{IsImage}
use Rattle.memory_volume.specs.Record.{versions_of, map_of}
use Rattle.memory_volume.specs.declared.entry.Entry.{Entry}

-- At moment t the first t calls of the record are done.
abbrev pub memory_state : List Entry → Failing → ℕ → State
memory_state calls failing reads = record {
  log = λ name. (versions_of calls name).present;
  map = λ name. map_of calls name;
  clock = length calls;
  log_left = λ t name log. IsImage (versions_of (take t calls) name) log;
  map_left = λ t name m. m ≡ map_of (take t calls) name;
  faults = failing.faults;
  reads = reads;
  steady = IsSteady failing;
}
