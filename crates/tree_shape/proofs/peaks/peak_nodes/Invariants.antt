use Rattle.std.proofs.Common.{◌-◌}
use Rattle.tree_shape.specs.Pins.{IsWalk}
use Rattle.tree_shape.proofs.PeakLemmas.{Listed}
use Rattle.tree_shape.proofs.peaks.peak_nodes.Given as goal

abbrev pub invariant-loop-i : goal.invariant-loop-i
invariant-loop-i g l = record {
  walk : IsWalk g.F.Family.shape l.leaves l.x (l.count - l.i);
  listed : Listed g.F.Family.shape l.leaves l.nodes.items (l.count - l.i);
}
