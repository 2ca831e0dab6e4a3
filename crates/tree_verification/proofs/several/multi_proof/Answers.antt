use Rattle.std.proofs.Common.{rules, take, ◌∙◌, ap}
use Rattle.tree_shape.proofs.PinLemmas.{take-all}
use Rattle.volume_base.proofs.ReadLemmas.{only_read_none, reads_of}
use Rattle.tree_proof.specs.Cover.{holds_one}
use Rattle.tree_proof.specs.SlowProof.{proof_of}
use Rattle.tree_verification.proofs.NodeLemmas.{ok_gives}
use Rattle.tree_verification.proofs.several.multi_proof.Goals as goal

pub returns-in_err-check_order-clause-reads : goal.returns-in_err-check_order-clause-reads
returns-in_err-check_order-clause-reads g c = reads_of _ _ _ _ _ (only_read_none _ _) (λ is. c.check_order.ensures.not_volume (search rules))

pub returns-in_err-check_within-clause-reads : goal.returns-in_err-check_within-clause-reads
returns-in_err-check_within-clause-reads g c = reads_of _ _ _ _ _ (only_read_none _ _) (λ is. c.check_within.ensures.not_volume (search rules))

pub returns-clause-proof : goal.returns-clause-proof
returns-clause-proof g c =
    ok_gives _ _ (λ proof p tells held h all tree.
    p tells held h all tree ∙ ap (λ ls. proof_of g.F.Family.shape h ls c.args.inactive_peaks (holds_one c.args.locations.now)) (ap (λ m. take m all) (c.as_u64-leaves.ensures ∙ c.leaves.ensures.leaves ∙ tree.count) ∙ take-all all)) c.prove.result c.prove.ensures.proof
