use Rattle.std.proofs.Common.{◌≤◌, ◌-◌, ◌^◌, ℕ, length}
use Rattle.tree_shape.specs.Shape.{made}
use Rattle.tree_shape.proofs.sizes.leaves_within.Given as goal

abbrev pub invariant-loop-low : goal.invariant-loop-low
invariant-loop-low g l = record {
  few : l.high ≤ 2 ^ 62;
  order : l.low ≤ l.high;
  below : length (made g.F.Family.shape l.low) ≤ l.pos;
  most : (m : ℕ) → m ≤ 2 ^ 62 → length (made g.F.Family.shape m) ≤ l.pos → m ≤ l.high;
}

abbrev pub decreases-loop-low : goal.decreases-loop-low
decreases-loop-low g l = l.high - l.low
