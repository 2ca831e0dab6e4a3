use Rattle.std.proofs.Common.{drop}
use Rattle.tree_verification.proofs.WalkLemmas.{Found}
use Rattle.tree_verification.proofs.walk.find_cover.Given as goal

abbrev pub invariant-loop-i : goal.invariant-loop-i
invariant-loop-i g l = Found g.F.Family.shape (g.W.Wanted.met l.wanted) l.leaves l.positions.items (drop l.i l.peaks.items)
