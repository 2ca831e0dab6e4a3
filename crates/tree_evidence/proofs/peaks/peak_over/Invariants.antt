use Rattle.std.proofs.Common.{◌≤◌, ◌<◌, drop}
use Rattle.tree_shape.specs.Shape.{made, PeaksStand}
use Rattle.tree_evidence.proofs.PeakLemmas.{AreLeft}
use Rattle.tree_evidence.proofs.peaks.peak_over.Given as goal

-- the leaf stands under one of the peaks that are left
abbrev pub invariant-loop-i : goal.invariant-loop-i
invariant-loop-i g l = let s = g.F.Family.shape in let hs = s.heights l.leaves in record {
  left : AreLeft l.leaves l.end l.i hs;
  stand : PeaksStand s (made s l.leaves) l.end (drop l.i hs);
  within : l.end ≤ l.leaves;
  before : l.place < l.end;
}
