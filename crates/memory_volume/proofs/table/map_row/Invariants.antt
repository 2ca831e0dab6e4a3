use Rattle.std.proofs.Common.{◌≡◌, ◌+◌, drop}
use Rattle.memory_volume.specs.Tables.{row_of, map_name}
use Rattle.memory_volume.proofs.table.map_row.Given as goal

abbrev pub invariant-loop-i : goal.invariant-loop-i
invariant-loop-i l = row_of map_name l.maps l.name ≡ l.i + row_of map_name (drop l.i l.maps) l.name
