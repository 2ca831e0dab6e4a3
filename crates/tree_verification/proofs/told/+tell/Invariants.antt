use Rattle.tree_verification.proofs.told.+tell.Given as goal

abbrev pub decreases-tell : goal.decreases-tell
decreases-tell g l = l.height
