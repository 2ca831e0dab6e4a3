use Rattle.std.proofs.Common.{add-one, arith}
use Rattle.tree_core.proofs.KeptNodesLemmas.{none_read, found_read}
use Rattle.tree_core.proofs.kept_nodes.pin_among.Goals as goal

pub returns-then-pins-i : goal.returns-then-pins-i
returns-then-pins-i g c =
    found_read c.args.pins.now c.loop-i.i c.args.count c.args.position c.index-pins-i.result c.index-pins-i-then-pins-i.result c.loop-i.invariant c.loop-i-test.true (omega (arith, c.loop-i-test.true, c.requires)) c.if-pins-i.true

pub loop-i-preserved : goal.loop-i-preserved
loop-i-preserved g c =
    rw add-one (none_read c.args.pins.now c.loop-i.i c.args.position c.index-pins-i.result c.loop-i.invariant (omega (arith, c.loop-i-test.true, c.requires)) c.if-pins-i.false)
