use Rattle.std.proofs.Common.{◌≡◌, ◌+◌, drop}
use Rattle.memory_volume.specs.Tables.{row_of, log_name}
use Rattle.memory_volume.proofs.table.log_row.Given as goal

abbrev pub invariant-loop-i : goal.invariant-loop-i
invariant-loop-i l = row_of log_name l.logs l.name ≡ l.i + row_of log_name (drop l.i l.logs) l.name
