use Rattle.std.proofs.Common.{refl, subst}
use Rattle.tree_verification.specs.Ranges.{range_answer}
use Rattle.tree_core.specs.Tree.{Tree, IsSound}
use Rattle.tree_core.proofs.CoveredLemmas.{kept-in}
use Rattle.tree_core.proofs.mem.Mem.range_proof.Goals as goal

pub returns-clause-kept : goal.returns-clause-kept
returns-clause-kept g c from =
    let s = g.F.Family.shape in
    let t = c.args.self.now in
    let sound = subst (λ (u : Tree g.row.D.Denot). IsSound s u) c.self.view_is c.self.invariant.sound in
    kept-in s t t.leaves c.args.inactive_peaks c.args.start c.args.end (range_answer t.leaves t.leaves c.args.start c.args.end) c.range_proof_from_memory.result g.met.F.Family.lawful g.met.F.Family.keeps sound refl from c.range_proof_from_memory.ensures
