use Rattle.std.proofs.Common.{◌++◌, ◌∙◌, ap}
use Rattle.tree_core.specs.KeptNodes.{entry_at, placed}
use Rattle.tree_core.specs.Tree.{Tree, node_at}
use Rattle.tree_core.proofs.mem.Mem.node.Goals as goal

pub node_of-requires : goal.node_of-requires
node_of-requires g c = rw (c.deref.ensures.value, c.size-first.ensures) c.self.invariant.before

pub returns : goal.returns
returns g c =
    let p = c.args.position in
    c.node_of.ensures ∙ ap (λ es. entry_at (es ++ placed c.size-first.result c.deref-2.result.now) p) c.deref.ensures.value
    ∙ ap (λ ds. entry_at (c.self.inside.pins.items ++ placed c.size-first.result ds) p) c.deref-2.ensures.value
    ∙ ap (λ n. entry_at (c.self.inside.pins.items ++ placed n c.self.inside.nodes.items) p) c.size-first.ensures
    ∙ ap (λ (t : Tree g.row.D.Denot). node_at t p) c.self.view_is
