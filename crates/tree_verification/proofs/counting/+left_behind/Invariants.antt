use Rattle.tree_verification.proofs.counting.+left_behind.Given as goal

abbrev pub decreases-left_behind : goal.decreases-left_behind
decreases-left_behind g l = l.height
