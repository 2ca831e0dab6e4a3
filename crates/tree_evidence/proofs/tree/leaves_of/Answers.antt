use Rattle.std.proofs.Common.{[], ap, ◌∙◌, arith}
use Rattle.tree_shape.proofs.NodeLemmas.{read-get_or}
use Rattle.tree_evidence.proofs.NodeLemmas.{leaf_is}
use Rattle.tree_evidence.proofs.TreeLemmas.{leaves_next, leaves_all}
use Rattle.tree_evidence.proofs.tree.leaves_of.Goals as goal

pub loop-i-preserved : goal.loop-i-preserved
loop-i-preserved g c =
    let s = g.F.Family.shape in
    let h = g.H.Hasher.hash in
    let elements = c.args.elements.now in
    let input = leaf_is s h _ _ _ _ (c.new-pos.ensures ∙ c.position.ensures) (c.as_slice.ensures ∙ read-get_or elements c.loop-i.i _ [] c.loop-i-test.true c.index-elements-i.is) in
    leaves_next s h elements c.loop-i.i _ _ c.leaf_digest.result c.loop-i-test.true c.loop-i.invariant (c.leaf_digest.ensures ∙ ap h.digest input) (c.in_ok-push.ensures {u = tt}).items

pub returns : goal.returns
returns g c = leaves_all g.F.Family.shape g.H.Hasher.hash c.args.elements.now c.loop-i.i _ c.loop-i.invariant (omega (arith, c.loop-i-test.false))
