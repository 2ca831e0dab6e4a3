use Rattle.std.proofs.Common.{length, sym, ◌∙◌, ap, arith}
use Rattle.std.specs.Option.{option_map}
use Rattle.tree_shape.specs.Shape.{peaks}
use Rattle.tree_proof.proofs.RebuildLemmas.{length-wholly_rebuilt}
use Rattle.tree_shape.proofs.PeakLemmas.{length-peaks}
use Rattle.tree_proof.proofs.checking.rebuild_root.Goals as goal

pub root_of_peaks-requires : goal.root_of_peaks-requires
root_of_peaks-requires g c =
    let s = g.F.Family.shape in
    let all = sym (c.in_ok-rebuild_peaks.ensures {u = tt}) ∙ ap (option_map (λ v. v.items)) c.in-Some.is in
    let l = length-wholly_rebuilt s g.H.Hasher.hash _ _ (peaks s c.as_u64-leaves.result) _ c.in-Some.peaks.items all in
    rw c.deref.ensures.value (omega (arith, l, length-peaks s c.as_u64-leaves.result, ap (λ n. length (s.heights n)) c.as_u64-leaves.ensures, c.requires.inactive))
