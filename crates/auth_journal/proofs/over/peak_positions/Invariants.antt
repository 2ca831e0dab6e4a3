use Rattle.std.proofs.Common.{◌≡◌, ◌++◌}
use Rattle.tree_shape.specs.Pins.{pins}
use Rattle.auth_journal.proofs.over.peak_positions.Given as goal

abbrev pub invariant-loop-position : goal.invariant-loop-position
invariant-loop-position g l = l.positions.items ++ l.position-iterator ≡ pins g.F.Family.shape l.leaves
