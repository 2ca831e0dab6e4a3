use Rattle.std.proofs.Common.{◌≡◌, List, ℕ, take}
use Rattle.memory_volume.specs.Record.{versions_of}
use Rattle.memory_volume.specs.Replay.{replayed}
use Rattle.memory_volume.proofs.replay.replay.Given as goal

abbrev pub invariant-loop-call : goal.invariant-loop-call
invariant-loop-call l = (name : List ℕ) → replayed l.rows.items name ≡ versions_of (take l.call-index l.calls) name
