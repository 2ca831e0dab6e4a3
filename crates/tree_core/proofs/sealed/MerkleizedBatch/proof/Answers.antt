use Rattle.std.proofs.Common.{◌+◌, refl, subst}
use Rattle.tree_proof.specs.Cover.{meets}
use Rattle.tree_verification.specs.Ranges.{leaf_answer}
use Rattle.tree_proof.specs.SlowProof.{proof_of}
use Rattle.tree_core.specs.Batches.{Sealed, IsSoundSealed}
use Rattle.tree_core.proofs.CoveredLemmas.{kept-over, leaf-within}
use Rattle.tree_core.proofs.OverlayLemmas.{overlay-proof}
use Rattle.tree_core.proofs.sealed.MerkleizedBatch.proof.Goals as goal

pub returns-clause-batch : goal.returns-clause-batch
returns-clause-batch g c =
    let s = g.F.Family.shape in
    let sound = subst (λ (b : Sealed g.row.D.Denot). IsSoundSealed s b) c.self.view_is c.self.invariant in
    overlay-proof s c.args.self.now c.args.base.now _ (λ h all. proof_of s h all c.args.inactive_peaks (meets c.args.loc (c.args.loc + 1))) c.proof_from_memory.result g.met.F.Family.lawful sound refl c.proof_from_memory.ensures.proof

pub returns-clause-kept : goal.returns-clause-kept
returns-clause-kept g c from reach =
    let s = g.F.Family.shape in
    let n = c.args.self.now.leaves in
    let sound = subst (λ (b : Sealed g.row.D.Denot). IsSoundSealed s b) c.self.view_is c.self.invariant in
    kept-over s c.args.self.now c.args.base.now n c.args.inactive_peaks c.args.loc (c.args.loc + 1) (leaf_answer n c.args.loc) c.proof_from_memory.result g.met.F.Family.lawful g.met.F.Family.keeps sound c.leaves-stored.ensures.sound refl (leaf-within n c.args.loc) from reach c.proof_from_memory.ensures
