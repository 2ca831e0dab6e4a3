use Rattle.std.proofs.Common.{length}
use Rattle.tree_evidence.proofs.fold_pairs.+find_backward.Given as goal

abbrev pub decreases-find_backward : goal.decreases-find_backward
decreases-find_backward g l = length l.ones.now
