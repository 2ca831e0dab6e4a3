use Rattle.std.proofs.Common.{length, ap, ◌∙◌, arith}
use Rattle.tree_proof.proofs.Complete.{length-leaf_digests}
use Rattle.tree_evidence.proofs.TreeLemmas.{peaks_are}
use Rattle.tree_evidence.proofs.tree.tree_of.Goals as goal

pub slow_peaks-requires : goal.slow_peaks-requires
slow_peaks-requires g c =
    let l = ap length (c.deref.ensures.value ∙ c.in_ok-leaves.ensures) ∙ length-leaf_digests g.F.Family.shape g.H.Hasher.hash c.args.elements.now in
    omega (arith, l, c.requires)

pub returns-clause-whole : goal.returns-clause-whole
returns-clause-whole g c = record {
  few = c.requires;
  leaves = c.in_ok-leaves.ensures;
  peaks = peaks_are g.F.Family.shape g.H.Hasher.hash c.args.elements.now _ c.deref.result.now (c.deref.ensures.value ∙ c.in_ok-leaves.ensures) c.in_ok-peaks.ensures;
}
