use Rattle.merkle_full.proofs.TailLemmas.{read_tail}
use Rattle.merkle_full.proofs.tail.nodes_before.Goals as goal

pub returns-clause-tail : goal.returns-clause-tail
returns-clause-tail g c = read_tail g.F.Family.shape c.args.mem.now c.args.first (λ v. v.items) c.nodes_from.result c.nodes_from.ensures.counted c.nodes_from.ensures.told
