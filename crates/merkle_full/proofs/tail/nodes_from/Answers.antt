use Rattle.std.proofs.Common.{◌+◌, length, ap, arith}
use Rattle.tree_shape.specs.Shape.{made}
use Rattle.tree_shape.specs.Slow.{nodes}
use Rattle.merkle_full.proofs.ListLemmas.{list_from}
use Rattle.merkle_full.proofs.FullLemmas.{length-nodes}
use Rattle.merkle_full.proofs.tail.nodes_from.Goals as goal

pub returns-clause-counted : goal.returns-clause-counted
returns-clause-counted g c =
    let i = c.loop-position.invariant in
    let counted = i.counted in
    let low = i.low in
    let high = i.high in
    omega (arith, counted, low, high, c.loop-position-test.false, c.as_u64-size.ensures, c.size.ensures.size)

pub returns-clause-tree : goal.returns-clause-tree
returns-clause-tree g c h all of =
    let s = g.F.Family.shape in
    let counted = returns-clause-counted g c in
    let count = of.count in
    list_from c.loop-position.tail.items (nodes s h all) c.args.first (omega (arith, counted, length-nodes s h all, ap (λ n. length (made s n)) count))
    (λ i d e. of.right (c.args.first + i) d (c.loop-position.invariant.told i d e))

pub returns-clause-told : goal.returns-clause-told
returns-clause-told g c i d is = c.loop-position.invariant.told i d is
