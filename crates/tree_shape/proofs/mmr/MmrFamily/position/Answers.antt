use Rattle.std.proofs.Common.{arith}
use Rattle.tree_shape.proofs.MmrBits.{height_below}
use Rattle.tree_shape.proofs.mmr.MmrFamily.position.Goals as goal

pub overflow_shl-height : goal.overflow_shl-height
overflow_shl-height c = omega (arith, height_below c.args.height (omega arith))
