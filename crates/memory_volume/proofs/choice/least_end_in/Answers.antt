use Rattle.std.proofs.Common.{inr, arith}
use Rattle.memory_volume.proofs.ChoiceLemmas.{among_at}
use Rattle.memory_volume.proofs.choice.least_end_in.Goals as goal

pub end-requires : goal.end-requires
end-requires c = c.requires c.index.result.now (inr (among_at c.args.row.now.earlier.items _ c.index.result.now (omega arith) c.index.ensures))
