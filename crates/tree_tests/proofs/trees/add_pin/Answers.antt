use Rattle.std.proofs.Common.{arith}
use Rattle.tree_tests.proofs.trees.add_pin.Goals as goal

pub add_pinned_nodes-requires : goal.add_pinned_nodes-requires
add_pinned_nodes-requires g c p d is = let same = c.in_ok-pins.ensures p d is in omega (arith, same, c.requires)
