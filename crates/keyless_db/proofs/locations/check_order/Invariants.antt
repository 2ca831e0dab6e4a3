use Rattle.std.proofs.Common.{◌≡◌, ◌≤◌, None, take}
use Rattle.log_model.specs.Reads.{unordered}
use Rattle.keyless_db.proofs.locations.check_order.Given as goal

abbrev pub invariant-loop-i : goal.invariant-loop-i
invariant-loop-i g l = record {
  low : 1 ≤ l.i;
  rising : unordered (take l.i l.locs) ≡ None;
}
