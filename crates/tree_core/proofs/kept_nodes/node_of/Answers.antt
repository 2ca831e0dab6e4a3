use Rattle.std.proofs.Common.{length, refl, ◌∙◌, ap}
use Rattle.tree_core.specs.KeptNodes.{entry_at}
use Rattle.tree_core.proofs.KeptNodesLemmas.{whole_before, whole_entry}
use Rattle.tree_core.proofs.kept_nodes.node_of.Goals as goal

pub node_among-requires-clause-before : goal.node_among-requires-clause-before
node_among-requires-clause-before g c = whole_before c.args.pins.now c.args.pins.now c.args.first c.args.first (length c.args.pins.now) refl refl refl c.requires

pub returns : goal.returns
returns g c =
    c.node_among.ensures
    ∙ ap (λ es. entry_at es c.args.position) (whole_entry c.args.pins.now c.args.pins.now c.args.nodes.now c.args.nodes.now c.args.first c.args.first (length c.args.pins.now) refl refl refl refl)
