use Rattle.std.proofs.Common.{length, ap, arith}
use Rattle.tree_shape.proofs.NodeLemmas.{length-peaks}
use Rattle.tree_shape.proofs.slow.slow_root.Goals as goal

pub root_of_peaks-requires : goal.root_of_peaks-requires
root_of_peaks-requires g c =
    let l = length-peaks g.F.Family.shape g.H.Hasher.hash c.args.leaves.now (length c.args.leaves.now) in
    let e = ap length c.in_ok-digests.ensures in
    rw c.deref.ensures.value (omega (arith, l, e, c.requires.inactive))
