use Rattle.std.proofs.Common.{drop}
use Rattle.tree_proof.proofs.LeftLemmas.{Gone}
use Rattle.tree_proof.proofs.left.left_nodes.Given as goal

abbrev pub invariant-loop-i : goal.invariant-loop-i
invariant-loop-i g l = Gone l.start l.peaks.items l.nodes.items (drop l.i l.peaks.items)
