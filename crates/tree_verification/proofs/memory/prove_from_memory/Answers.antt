use Rattle.std.proofs.Common.{Some, map, take, refl, ◌∙◌, ap, arith}
use Rattle.tree_shape.proofs.PinLemmas.{take-all}
use Rattle.tree_proof.specs.SlowProof.{proof_of}
use Rattle.tree_verification.proofs.NodeLemmas.{told-proof}
use Rattle.tree_verification.proofs.memory.prove_from_memory.Goals as goal

pub returns-clause-proof : goal.returns-clause-proof
returns-clause-proof g c h all tree =
    let s = g.R.Family.Family.shape in
    let told = g.R.Readable.told c.args.nodes.now in
    told-proof s h all c.args.leaves told c.args.leaves c.args.inactive_peaks (g.W.Wanted.met c.args.wanted.now) _ g.met.R.Family.Family.lawful (omega arith) c.new.ensures refl
    (ap (map Some) c.from_vec.ensures ∙ c.in_ok-digests.ensures.nodes ∙ ap (map told) (c.deref.ensures.value ∙ c.in_ok-positions.ensures)) tree
    ∙ ap (λ ls. proof_of s h ls c.args.inactive_peaks (g.W.Wanted.met c.args.wanted.now)) (ap (λ m. take m all) tree.count ∙ take-all all)
