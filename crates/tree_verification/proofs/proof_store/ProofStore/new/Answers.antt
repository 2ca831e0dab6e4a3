use Rattle.std.proofs.Common.{◌+◌, length, ◌∙◌, arith}
use Rattle.tree_shape.specs.Slow.{leaf_digests, node}
use Rattle.tree_proof.specs.Cover.{meets}
use Rattle.tree_proof.proofs.Complete.{length-leaf_digests}
use Rattle.tree_verification.proofs.FoundLemmas.{tree-of-told, same-tree}
use Rattle.tree_verification.proofs.FitLemmas.{slow-told, told-from}
use Rattle.tree_verification.proofs.proof_store.ProofStore.new.Goals as goal

pub returns-clause-nodes : goal.returns-clause-nodes
returns-clause-nodes g c tree told = told-from g.F.Family.shape g.H.Hasher.hash c.args.proof.now c.args.start c.args.elements.now _ _ _ _ tree c.as_u64-from.ensures c.as_u64-leaves.ensures c.as_slice.ensures told (c.in_ok-nodes.ensures tree)

pub returns-clause-tree : goal.returns-clause-tree
returns-clause-tree g c all l digests are =
    let s = g.F.Family.shape in
    let h = g.H.Hasher.hash in
    let a = c.args.start in
    let told = slow-told s h c.args.proof.now a c.args.elements.now all l (omega (arith, c.in_ok-check_told.ensures.within)) digests are in
    let tells = returns-clause-nodes g c (node s h (leaf_digests s h all)) told in
    same-tree s h (leaf_digests s h all) _ _ _ c.as_u64-leaves.ensures
    (tree-of-told s h (leaf_digests s h all) (meets a (a + length c.args.elements.now)) c.args.proof.now.leaves _ g.met.F.Family.lawful (length-leaf_digests s h all ∙ l) tells)
