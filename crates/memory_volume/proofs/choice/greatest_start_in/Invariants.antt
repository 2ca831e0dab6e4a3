use Rattle.std.proofs.Common.{◌≡◌, ◌≤◌, length, drop}
use Rattle.memory_volume.specs.Versions.{greatest_of}
use Rattle.memory_volume.proofs.choice.greatest_start_in.Given as goal

abbrev pub invariant-loop-i : goal.invariant-loop-i
invariant-loop-i l = record {
  within : l.i ≤ length l.row.earlier.items;
  greatest : l.start ≡ greatest_of l.row.present.start (drop l.i l.row.earlier.items);
}

abbrev pub decreases-loop-i : goal.decreases-loop-i
decreases-loop-i l = l.i
