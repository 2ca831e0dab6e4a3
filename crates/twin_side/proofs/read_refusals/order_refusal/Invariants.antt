use Rattle.std.proofs.Common.{◌≡◌, ◌≤◌, None, take}
use Rattle.log_model.specs.Reads.{unordered}
use Rattle.twin_side.proofs.read_refusals.order_refusal.Given as goal

abbrev pub invariant-loop-i : goal.invariant-loop-i
invariant-loop-i l = record {
  low : 1 ≤ l.i;
  rising : unordered (take l.i l.locations) ≡ None;
}
