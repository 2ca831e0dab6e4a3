use Rattle.tree_shape.proofs.slow.+slow_node.Given as goal

abbrev pub decreases-slow_node : goal.decreases-slow_node
decreases-slow_node g l = l.height
