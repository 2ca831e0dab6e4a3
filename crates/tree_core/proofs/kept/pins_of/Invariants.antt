use Rattle.tree_core.proofs.PinnedLemmas.{PinnedSo}
use Rattle.tree_core.proofs.kept.pins_of.Given as goal

abbrev pub invariant-loop-j : goal.invariant-loop-j
invariant-loop-j g l = PinnedSo g.F.Family.shape l.leaves l.nodes.items l.pinned l.j
