use Rattle.std.proofs.Common.{◌≤◌}
use Rattle.folder_volume.proofs.reading.scan_items.Given as goal

abbrev pub invariant-loop : goal.invariant-loop
invariant-loop g l = l.left ≤ l.length
