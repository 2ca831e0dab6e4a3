use Rattle.std.proofs.Common.{◌<◌, ◌-◌, ◌/◌, length, arith}
use Rattle.tree_shape.specs.Shape.{made}
use Rattle.tree_shape.proofs.SizeLemmas.{size_below}
use Rattle.tree_shape.proofs.sizes.leaves_within.Goals as goal

pub loop-low-preserved : goal.loop-low-preserved
loop-low-preserved g c =
    let s = g.F.Family.shape in
    let middle = c.loop-low.high - (c.loop-low.high - c.loop-low.low) / 2 in
    let past : c.args.pos < length (made s middle) = omega (arith, c.size.ensures, c.if-size-pos.false) in
    record {
      few = omega arith;
      order = omega arith;
      below = c.loop-low.invariant.below;
      most = λ m few le. let h = size_below s m middle c.args.pos le past in omega (arith, h);
    }
