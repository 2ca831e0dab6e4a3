use Rattle.std.proofs.Common.{◌≡◌, take}
use Rattle.tree_shape.specs.Slow.{leaf_digests}
use Rattle.tree_evidence.proofs.tree.leaves_of.Given as goal

abbrev pub invariant-loop-i : goal.invariant-loop-i
invariant-loop-i g l = l.leaves.items ≡ take l.i (leaf_digests g.F.Family.shape g.H.Hasher.hash l.elements)
