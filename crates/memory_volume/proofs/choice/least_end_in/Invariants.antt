use Rattle.std.proofs.Common.{◌≡◌, ◌≤◌, length, drop}
use Rattle.volume_base.specs.Log.{end_of}
use Rattle.memory_volume.specs.Versions.{least_of}
use Rattle.memory_volume.proofs.choice.least_end_in.Given as goal

abbrev pub invariant-loop-i : goal.invariant-loop-i
invariant-loop-i l = record {
  within : l.i ≤ length l.row.earlier.items;
  least : l.end ≡ least_of (end_of l.row.present) (drop l.i l.row.earlier.items);
}

abbrev pub decreases-loop-i : goal.decreases-loop-i
decreases-loop-i l = l.i
