use Rattle.tree_verification.proofs.walk.+push_cover.Given as goal

abbrev pub decreases-push_cover : goal.decreases-push_cover
decreases-push_cover g l = l.height
