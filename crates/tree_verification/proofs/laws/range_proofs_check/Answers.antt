use Rattle.std.proofs.Common.{ℕ, sym, subst}
use Rattle.std.specs.Prelude.{slice_range}
use Rattle.tree_shape.specs.Slow.{leaf_digests}
use Rattle.tree_shape.specs.Root.{root}
use Rattle.tree_proof.specs.Cover.{meets, cover_digests}
use Rattle.tree_proof.specs.Check.{Checks}
use Rattle.tree_proof.proofs.Complete.{slow_proof_checks, length-leaf_digests}
use Rattle.tree_verification.proofs.laws.range_proofs_check.Goals as goal

pub returns : goal.returns
returns g c bagging elements inactive a b r =
    let s = g.F.Family.shape in
    let h = g.H.Hasher.hash in
    let leaves = leaf_digests s h elements in
    subst (λ (n : ℕ). Checks {F = g.row.F.Denot} s h bagging (record { leaves = n; inactive_peaks = inactive; digests = cover_digests s h leaves (meets a b) n }) a (slice_range elements a b) (root s h leaves inactive bagging))
    (sym (length-leaf_digests s h elements)) (slow_proof_checks s h elements bagging inactive a b r)
