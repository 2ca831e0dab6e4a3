use Rattle.std.proofs.Common.{◌≡◌, drop}
use Rattle.tree_verification.specs.Several.{rising_from, order_answer}
use Rattle.tree_verification.proofs.order.check_order.Given as goal

abbrev pub invariant-loop-i : goal.invariant-loop-i
invariant-loop-i g l = rising_from {F = g.row.F.Denot} l.before (drop l.i l.locations) ≡ order_answer {F = g.row.F.Denot} l.locations
