use Rattle.std.proofs.Common.{take, sym, ◌∙◌}
use Rattle.tree_core.proofs.KeptNodesLemmas.{low_entry, run_read, run_past}
use Rattle.tree_core.proofs.kept_nodes.node_among.Goals as goal

pub returns-then-position-first : goal.returns-then-position-first
returns-then-position-first g c = c.pin_among.ensures ∙ sym (low_entry (take c.args.count c.args.pins.now) c.args.nodes.now c.args.first c.args.position c.if-position-first.true)

pub returns-then-place-nodes : goal.returns-then-place-nodes
returns-then-place-nodes g c = run_read (take c.args.count c.args.pins.now) c.args.nodes.now c.args.first c.args.position c.index-nodes-place.result c.requires.before c.if-position-first.false c.if-place-nodes.true c.index-nodes-place.is

pub returns-else-place-nodes : goal.returns-else-place-nodes
returns-else-place-nodes g c = sym (run_past (take c.args.count c.args.pins.now) c.args.nodes.now c.args.first c.args.position c.requires.before c.if-position-first.false c.if-place-nodes.false)
