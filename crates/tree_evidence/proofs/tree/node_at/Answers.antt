use Rattle.std.proofs.Common.{length, ap, ◌∙◌, arith}
use Rattle.tree_proof.proofs.Complete.{length-leaf_digests}
use Rattle.tree_evidence.proofs.tree.node_at.Goals as goal

pub slow_node-requires-clause-within : goal.slow_node-requires-clause-within
slow_node-requires-clause-within g c =
    let l = ap length (c.deref.ensures.value ∙ c.requires.whole.leaves) ∙ length-leaf_digests g.F.Family.shape g.H.Hasher.hash c.args.tree.now.elements.now in
    omega (arith, l, c.requires.within)

pub slow_node-requires-clause-few : goal.slow_node-requires-clause-few
slow_node-requires-clause-few g c =
    let l = ap length (c.deref.ensures.value ∙ c.requires.whole.leaves) ∙ length-leaf_digests g.F.Family.shape g.H.Hasher.hash c.args.tree.now.elements.now in
    omega (arith, l, c.requires.whole.few)
