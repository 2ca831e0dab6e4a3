use Rattle.std.proofs.Common.{arith, ◌∙◌}
use Rattle.tree_shape.proofs.SizeLemmas.{size_grow}
use Rattle.tree_shape.proofs.family.Family.to_nearest_size.Goals as goal

pub returns : goal.returns
returns g c =
    let s = g.Self.Family.shape in
    let n = c.leaves_within.result in
    record {
      leaves = n;
      few = c.leaves_within.ensures.few;
      size_of = c.new.ensures ∙ c.size.ensures;
      below = omega (arith, c.new.ensures, c.size.ensures, c.leaves_within.ensures.below, c.as_u64.ensures);
      greatest = λ m few le.
          let up = size_grow s m n (c.leaves_within.ensures.most m few (omega (arith, le, c.as_u64.ensures))) in
          omega (arith, up, c.new.ensures, c.size.ensures);
    }
