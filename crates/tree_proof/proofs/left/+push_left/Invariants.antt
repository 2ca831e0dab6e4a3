use Rattle.tree_proof.proofs.left.+push_left.Given as goal

abbrev pub decreases-push_left : goal.decreases-push_left
decreases-push_left l = l.height
