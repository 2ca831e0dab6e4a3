use Rattle.std.proofs.Common.{◌≤◌, length}
use Rattle.tables.proofs.shapes.print_peaks.Given as goal

abbrev pub invariant-loop-pin : goal.invariant-loop-pin
invariant-loop-pin g l = l.left ≤ length (g.F.Family.shape.heights l.n)
