use Rattle.std.proofs.Common.{length, ap, ◌∙◌, arith}
use Rattle.tree_shape.specs.Slow.{leaf_digests}
use Rattle.tree_shape.proofs.NodeLemmas.{length-peaks}
use Rattle.tree_evidence.proofs.TreeLemmas.{root_is}
use Rattle.tree_evidence.proofs.tree.root_of.Goals as goal

pub root_of_peaks-requires : goal.root_of_peaks-requires
root_of_peaks-requires g c =
    let s = g.F.Family.shape in
    let h = g.H.Hasher.hash in
    let elements = c.args.tree.now.elements.now in
    let l = ap length (c.deref.ensures.value ∙ c.requires.whole.peaks) ∙ length-peaks s h (leaf_digests s h elements) (length elements) in
    omega (arith, l, c.requires.within)

pub returns : goal.returns
returns g c =
    c.root_of_peaks.ensures
    ∙ root_is g.F.Family.shape g.H.Hasher.hash c.args.tree.now.elements.now c.args.hasher.now c.args.inactive c.deref.result.now (c.deref.ensures.value ∙ c.requires.whole.peaks)
