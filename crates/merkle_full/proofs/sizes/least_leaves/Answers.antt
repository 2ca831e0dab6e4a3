use Rattle.std.proofs.Common.{◌^◌, arith}
use Rattle.tree_shape.proofs.NeededLemmas.{made_le}
use Rattle.merkle_full.proofs.OpeningLemmas.{least_here, least_next}
use Rattle.merkle_full.proofs.sizes.least_leaves.Goals as goal

pub returns-then-size-start-clause-least : goal.returns-then-size-start-clause-least
returns-then-size-start-clause-least g c = least_here g.F.Family.shape c.args.start c.leaves_below-below.result (omega (arith, c.size.ensures, c.if-size-start.true))

pub returns-then-size-start-clause-low : goal.returns-then-size-start-clause-low
returns-then-size-start-clause-low g c =
    (least_here g.F.Family.shape c.args.start c.leaves_below-below.result (omega (arith, c.size.ensures, c.if-size-start.true))).least c.args.cap c.requires.within

pub returns-else-size-start-clause-least : goal.returns-else-size-start-clause-least
returns-else-size-start-clause-least g c =
    let w = c.requires.within in
    let f = c.requires.few in
    least_next g.F.Family.shape c.args.start c.leaves_below-below.result (omega (arith, w, made_le g.F.Family.shape c.args.cap (2 ^ 62) f)) c.leaves_below-below.ensures (λ is. omega (arith, is, c.size.ensures, c.if-size-start.false))

pub returns-else-size-start-clause-low : goal.returns-else-size-start-clause-low
returns-else-size-start-clause-low g c = (returns-else-size-start-clause-least g c).least c.args.cap c.requires.within
