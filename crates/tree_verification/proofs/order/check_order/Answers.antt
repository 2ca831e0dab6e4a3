use Rattle.tree_verification.proofs.SeveralLemmas.{order-rising, order-last}
use Rattle.tree_verification.proofs.order.check_order.Goals as goal

pub returns-clause-rising : goal.returns-clause-rising
returns-clause-rising g c = order-rising {F = g.row.F.Denot} c.args.locations.now (order-last {F = g.row.F.Denot} c.args.locations.now c.loop-i.i c.loop-i.before c.loop-i.invariant c.loop-i-test.false)
