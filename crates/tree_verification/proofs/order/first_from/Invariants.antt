use Rattle.std.proofs.Common.{◌<◌, ◌≤◌, ◌-◌, ℕ, length, get_or}
use Rattle.tree_verification.proofs.order.first_from.Given as goal

abbrev pub invariant-loop-low : goal.invariant-loop-low
invariant-loop-low g l = record {
  order : l.low ≤ l.high;
  within : l.high ≤ length l.locations;
  before : (k d : ℕ) → k < l.low → get_or l.locations k d < l.x;
  since : (k d : ℕ) → l.high ≤ k → k < length l.locations → l.x ≤ get_or l.locations k d;
}

abbrev pub decreases-loop-low : goal.decreases-loop-low
decreases-loop-low g l = l.high - l.low
