use Rattle.std.proofs.Common.{◌≡◌, ◌≤◌, drop}
use Rattle.tree_shape.specs.Shape.{made, PeaksStand}
use Rattle.tree_core.specs.Pruned.{peak_found}
use Rattle.tree_core.proofs.mark.Mark.peak_over.Given as goal

abbrev pub invariant-loop-i : goal.invariant-loop-i
invariant-loop-i g l = let s = g.F.Family.shape in let hs = s.heights l.self.leaves in record {
  told : peak_found l.self.leaves hs l.self.peaks.items l.start l.height ≡ peak_found l.end (drop l.i hs) (drop l.i l.self.peaks.items) l.start l.height;
  stand : PeaksStand s (made s l.self.leaves) l.end (drop l.i hs);
  within : l.end ≤ l.self.leaves;
}
