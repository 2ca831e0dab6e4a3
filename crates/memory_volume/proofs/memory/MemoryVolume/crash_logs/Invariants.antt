use Rattle.std.proofs.Common.{◌≡◌, ◌≤◌, List, ℕ, length, drop}
use Rattle.memory_volume.specs.Record.{versions_of, map_of}
use Rattle.memory_volume.specs.Versions.{only}
use Rattle.memory_volume.proofs.CrashLemmas.{crashed}
use Rattle.memory_volume.proofs.memory.MemoryVolume.crash_logs.Given as goal

abbrev pub invariant-loop-i : goal.invariant-loop-i
invariant-loop-i l = record {
  within : l.i ≤ length l.rows;
  logs : (name : List ℕ) → versions_of l.self.calls.items name ≡ only (crashed l.choices l.rows (drop l.i l.rows) name);
  maps : (name : List ℕ) → map_of l.self.calls.items name ≡ map_of l.initial.self.calls.items name;
  failing : l.self.failing ≡ l.initial.self.failing;
  reads : l.self.reads ≡ l.initial.self.reads;
}

abbrev pub decreases-loop-i : goal.decreases-loop-i
decreases-loop-i l = l.i
