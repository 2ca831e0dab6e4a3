use Rattle.std.proofs.Common.{◌≡◌, ◌≤◌, drop}
use Rattle.tree_shape.specs.Shape.{made, PeaksStand}
use Rattle.tree_shape.specs.Kept.{is_peak}
use Rattle.tree_shape.proofs.peaks.is_peak.Given as goal

abbrev pub invariant-loop-i : goal.invariant-loop-i
invariant-loop-i g l = let s = g.F.Family.shape in let hs = s.heights l.leaves in record {
  told : is_peak l.leaves hs l.x l.height ≡ is_peak l.end (drop l.i hs) l.x l.height;
  stand : PeaksStand s (made s l.leaves) l.end (drop l.i hs);
  within : l.end ≤ l.leaves;
}
