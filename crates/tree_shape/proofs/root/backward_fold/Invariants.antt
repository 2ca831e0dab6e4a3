use Rattle.std.proofs.Common.{◌≡◌, ◌<◌, length, drop}
use Rattle.tree_shape.specs.Hashing.{fold_input}
use Rattle.tree_shape.specs.Root.{fold_backward}
use Rattle.tree_shape.proofs.root.backward_fold.Given as goal

abbrev pub invariant-loop-i : goal.invariant-loop-i
invariant-loop-i g l = (l.i < length l.others) × ((p : g.row.H-Digest.Denot) → fold_backward g.H.Hasher.hash p (drop l.i l.others) ≡ g.H.Hasher.hash.digest (fold_input g.H.Hasher.hash p l.folded))

abbrev pub decreases-loop-i : goal.decreases-loop-i
decreases-loop-i g l = l.i
