use Rattle.std.proofs.lemmas.Result.{on_ok_weaker}
use Rattle.twin_databases.proofs.compact_side.CompactDbMmrOperationSha256HasherDatabase.snapshot.Goals as goal

pub returns-clause-inserted : goal.returns-clause-inserted
returns-clause-inserted c =
    on_ok_weaker c.to_batch.result (λ (x, put, none, bounds, marks, of). (x, put, bounds, λ kept image is. (of kept.ops is.held.list, marks))) c.to_batch.ensures.inserted
