use Rattle.std.proofs.Common.{drop}
use Rattle.tree_proof.proofs.WalkLemmas.{Told}
use Rattle.tree_proof.proofs.peaks.rebuild_nodes.Given as goal

abbrev pub invariant-loop-i : goal.invariant-loop-i
invariant-loop-i g l = Told g.F.Family.shape g.H.Hasher.hash (g.K.Wanted.met l.known) (g.K.Known.leaf_of l.known) l.nodes l.digests l.rebuilt.items (drop l.i l.nodes) (drop l.at l.digests)
