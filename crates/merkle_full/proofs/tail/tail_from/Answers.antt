use Rattle.std.proofs.Common.{◌≡◌, ◌-◌, ◌<◌, ◌≤◌, min, length, ◌∙◌, ap, arith}
use Rattle.tree_shape.specs.Shape.{made}
use Rattle.merkle_full.proofs.TailLemmas.{lent_tail, tail_listed}
use Rattle.merkle_full.proofs.tail.tail_from.Goals as goal

pub returns-then-first-as_u64-clause-tree : goal.returns-then-first-as_u64-clause-tree
returns-then-first-as_u64-clause-tree g c h all of =
    let s = g.F.Family.shape in
    let below : c.args.first < length (made s c.args.mem.now.boundary) = omega (arith, c.if-first-as_u64.true, c.as_u64.ensures, c.retained-boundary.ensures.boundary) in
    tail_listed s h all c.args.mem.now c.args.first c.args.read.now (c.requires below) of

pub returns-clause-tail : goal.returns-clause-tail
returns-clause-tail g c =
    let b = c.retained-boundary.result.0 in
    let lent = c.retained-boundary.result.1.now in
    let low : b ≤ c.args.first = omega (arith, c.as_u64.ensures, c.if-first-as_u64.false) in
    let past : c.min-past.result ≡ min (c.args.first - b) (length lent) = c.min-past.ensures ∙ ap (λ n. min (c.args.first - n) (length lent)) c.as_u64-2.ensures in
    lent_tail g.F.Family.shape c.args.mem.now lent b c.args.first c.min-past.result low past c.retained-boundary.ensures.counted c.retained-boundary.ensures.nodes

pub returns-clause-tree : goal.returns-clause-tree
returns-clause-tree g c h all of = tail_listed g.F.Family.shape h all c.args.mem.now c.args.first _ (returns-clause-tail g c) of
