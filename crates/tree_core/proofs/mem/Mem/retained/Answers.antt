use Rattle.std.proofs.Common.{◌+◌, ◌++◌, length, sym, ◌∙◌, ap, arith}
use Rattle.std.specs.Prelude.{slice_get}
use Rattle.tree_shape.specs.Shape.{made}
use Rattle.tree_core.specs.KeptNodes.{entry_at, placed}
use Rattle.tree_core.specs.Tree.{Tree, node_at}
use Rattle.tree_core.proofs.KeptNodesLemmas.{run_at}
use Rattle.tree_core.proofs.mem.Mem.retained.Goals as goal

pub returns-clause-boundary : goal.returns-clause-boundary
returns-clause-boundary g c = c.new.ensures ∙ c.size.ensures ∙ ap (λ (t : Tree g.row.D.Denot). length (made g.F.Family.shape t.boundary)) c.self.view_is

pub returns-clause-counted : goal.returns-clause-counted
returns-clause-counted g c =
    let s = g.F.Family.shape in
    let n = ap (λ (t : Tree g.row.D.Denot). length (made s t.leaves)) c.self.view_is in
    omega (arith, c.new.ensures, c.size.ensures, ap length c.as_slice.ensures.value, c.self.invariant.ended, n)

pub returns-clause-nodes : goal.returns-clause-nodes
returns-clause-nodes g c i =
    let pins = c.self.inside.pins.items in
    let run = c.self.inside.nodes.items in
    let first = length (made g.F.Family.shape c.self.inside.boundary) in
    ap (λ (t : Tree g.row.D.Denot). node_at t (c.new.result + i)) (sym c.self.view_is)
    ∙ ap (λ m. entry_at (pins ++ placed first run) (m + i)) (c.new.ensures ∙ c.size.ensures)
    ∙ run_at pins run first i c.self.invariant.before
    ∙ ap (λ ds. slice_get ds i) (sym c.as_slice.ensures.value)
