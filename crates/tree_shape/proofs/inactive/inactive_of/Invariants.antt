use Rattle.std.proofs.Common.{◌≡◌, ◌≤◌, drop}
use Rattle.std.specs.Prelude.{count_by}
use Rattle.tree_shape.specs.Shape.{made, PeaksStand, peaks_down, ends_by, inactive}
use Rattle.tree_shape.proofs.inactive.inactive_of.Given as goal

abbrev pub invariant-loop-i : goal.invariant-loop-i
invariant-loop-i g l = let s = g.F.Family.shape in record {
  told : count_by (ends_by l.floor) (peaks_down l.end (drop l.i (s.heights l.n))) ≡ inactive s l.n l.floor;
  stand : PeaksStand s (made s l.n) l.end (drop l.i (s.heights l.n));
  within : l.end ≤ l.n;
}
