use Rattle.std.proofs.Common.{length}
use Rattle.tree_evidence.proofs.fold_pairs.+find_forward.Given as goal

abbrev pub decreases-find_forward : goal.decreases-find_forward
decreases-find_forward g l = length l.ones.now
