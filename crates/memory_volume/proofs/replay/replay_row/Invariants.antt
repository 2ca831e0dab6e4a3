use Rattle.std.proofs.Common.{◌≡◌, ◌+◌, drop}
use Rattle.memory_volume.specs.Tables.{row_of}
use Rattle.memory_volume.specs.Replay.{replay_name}
use Rattle.memory_volume.proofs.replay.replay_row.Given as goal

abbrev pub invariant-loop-i : goal.invariant-loop-i
invariant-loop-i l = row_of replay_name l.rows l.name ≡ l.i + row_of replay_name (drop l.i l.rows) l.name
