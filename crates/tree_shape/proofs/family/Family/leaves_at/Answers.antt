use Rattle.std.proofs.Common.{arith}
use Rattle.tree_shape.proofs.SizeLemmas.{size_grow}
use Rattle.tree_shape.proofs.family.Family.leaves_at.Goals as goal

pub returns-else-size-as_u64-clause-none : goal.returns-else-size-as_u64-clause-none
returns-else-size-as_u64-clause-none g c n h =
    let s = g.Self.Family.shape in
    let few = h.0 in
    let is = h.1 in
    let le = c.leaves_within-leaves.ensures.most n h.0 (omega (arith, is, c.as_u64.ensures)) in
    let up = size_grow s n c.leaves_within-leaves.result le in
    c.if-size-as_u64.false (omega (arith, up, is, c.leaves_within-leaves.ensures.below, c.as_u64.ensures, c.as_u64-2.ensures, c.size.ensures))
