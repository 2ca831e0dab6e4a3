use Rattle.std.proofs.Common.{refl}
use Rattle.tree_core.proofs.ApplyLemmas.{refused_by_tree}
use Rattle.tree_core.proofs.mem.Mem.place_of.Goals as goal

pub returns-clause-answer : goal.returns-clause-answer
returns-clause-answer g c =
    refused_by_tree g.F.Family.shape c.args.self.now c.args.batch.now c.in_ok-mark.mark.leaves c.in_ok-mark.mark.peaks.items c.refusal.result c.in_ok-mark.ensures.mark
    ((c.in-None.ensures {u = tt}).none refl) c.refusal.ensures
