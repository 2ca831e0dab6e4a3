use Rattle.std.proofs.Common.{take, ◌∙◌, ap}
use Rattle.tree_shape.proofs.PinLemmas.{take-all}
use Rattle.tree_proof.specs.Cover.{meets}
use Rattle.tree_proof.specs.SlowProof.{proof_of}
use Rattle.tree_verification.proofs.NodeLemmas.{ok_gives}
use Rattle.tree_verification.proofs.ranges.range_proof.Goals as goal

pub returns-clause-proof : goal.returns-clause-proof
returns-clause-proof g c =
    let n = c.leaves-leaves.ensures.leaves in
    ok_gives _ _ (λ proof p tells held h all tree.
    p tells held h all tree ∙ ap (λ ls. proof_of g.F.Family.shape h ls c.args.inactive_peaks (meets c.args.start c.args.end)) (ap (λ m. take m all) (n ∙ tree.count) ∙ take-all all)) c.historical_range_proof.result c.historical_range_proof.ensures.proof
