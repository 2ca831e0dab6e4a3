use Rattle.std.proofs.Common.{refl, subst}
use Rattle.tree_proof.specs.Cover.{meets}
use Rattle.tree_verification.specs.Ranges.{range_answer}
use Rattle.tree_proof.specs.SlowProof.{proof_of}
use Rattle.tree_core.specs.Batches.{Sealed, IsSoundSealed}
use Rattle.tree_core.proofs.CoveredLemmas.{kept-over, range-within}
use Rattle.tree_core.proofs.OverlayLemmas.{overlay-proof}
use Rattle.tree_core.proofs.sealed.MerkleizedBatch.range_proof.Goals as goal

pub returns-clause-batch : goal.returns-clause-batch
returns-clause-batch g c =
    let s = g.F.Family.shape in
    let sound = subst (λ (b : Sealed g.row.D.Denot). IsSoundSealed s b) c.self.view_is c.self.invariant in
    overlay-proof s c.args.self.now c.args.base.now _ (λ h all. proof_of s h all c.args.inactive_peaks (meets c.args.start c.args.end)) c.range_proof_from_memory.result g.met.F.Family.lawful sound refl c.range_proof_from_memory.ensures.proof

pub returns-clause-kept : goal.returns-clause-kept
returns-clause-kept g c from reach =
    let s = g.F.Family.shape in
    let n = c.args.self.now.leaves in
    let sound = subst (λ (b : Sealed g.row.D.Denot). IsSoundSealed s b) c.self.view_is c.self.invariant in
    kept-over s c.args.self.now c.args.base.now n c.args.inactive_peaks c.args.start c.args.end (range_answer n n c.args.start c.args.end) c.range_proof_from_memory.result g.met.F.Family.lawful g.met.F.Family.keeps sound c.leaves-stored.ensures.sound refl (range-within n c.args.start c.args.end) from reach c.range_proof_from_memory.ensures
