use Rattle.std.proofs.Common.{◌≡◌, drop}
use Rattle.tree_shape.specs.Root.{fold_forward}
use Rattle.tree_shape.proofs.root.forward_fold.Given as goal

abbrev pub invariant-loop-other : goal.invariant-loop-other
invariant-loop-other g l = fold_forward g.H.Hasher.hash l.folded (drop l.other-index l.others) ≡ fold_forward g.H.Hasher.hash l.fn.first l.others
