use Rattle.std.proofs.Common.{arith}
use Rattle.tree_shape.proofs.MmrBits.{height_below}
use Rattle.tree_shape.proofs.mmb.MmbFamily.position.Goals as goal

pub half_width-half-requires : goal.half_width-half-requires
half_width-half-requires c = let b = height_below c.args.height (omega arith) in (omega arith, omega (arith, b))
