use Rattle.std.proofs.Common.{length, refl, sym, ◌∙◌, ap, add-one}
use Rattle.std.proofs.lemmas.Option.{slice_get_read}
use Rattle.tree_core.specs.Links.{ChainSegment}
use Rattle.tree_core.proofs.LinkLemmas.{node_here, node_past}
use Rattle.tree_core.proofs.segment.node_in.Goals as goal

pub returns-then-left-nodes : goal.returns-then-left-nodes
returns-then-left-nodes g c =
    let read = slice_get_read c.args.segments.now (length c.args.segments.now) c.loop-i.i c.index-segments-i.result refl c.loop-i-test.true c.index-segments-i.is in
    let nodes = c.nodes-nodes.ensures ∙ ap (λ (l : ChainSegment g.row.D.Denot). l.nodes) c.deref.ensures in
    let here = slice_get_read c.nodes-nodes.result.now (length c.nodes-nodes.result.now) c.loop-i.left c.index-nodes-left.result refl c.if-left-nodes.true c.index-nodes-left.is in
    sym (node_here _ c.args.segments.now c.loop-i.i c.loop-i.left c.index-segments-i.result c.nodes-nodes.result.now c.index-nodes-left.result read nodes c.if-left-nodes.true here) ∙ c.loop-i.invariant

pub loop-i-preserved : goal.loop-i-preserved
loop-i-preserved g c =
    let read = slice_get_read c.args.segments.now (length c.args.segments.now) c.loop-i.i c.index-segments-i.result refl c.loop-i-test.true c.index-segments-i.is in
    let nodes = c.nodes-nodes.ensures ∙ ap (λ (l : ChainSegment g.row.D.Denot). l.nodes) c.deref.ensures in
    rw add-one (node_past _ c.args.segments.now c.loop-i.i c.loop-i.left c.index-segments-i.result c.nodes-nodes.result.now read nodes c.if-left-nodes.false ∙ c.loop-i.invariant)
