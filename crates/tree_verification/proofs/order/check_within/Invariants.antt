use Rattle.std.proofs.Common.{◌≡◌, drop}
use Rattle.tree_verification.specs.Several.{within_answer}
use Rattle.tree_verification.proofs.order.check_within.Given as goal

abbrev pub invariant-loop-i : goal.invariant-loop-i
invariant-loop-i g l = within_answer {F = g.row.F.Denot} l.leaves (drop l.i l.locations) ≡ within_answer {F = g.row.F.Denot} l.leaves l.locations
