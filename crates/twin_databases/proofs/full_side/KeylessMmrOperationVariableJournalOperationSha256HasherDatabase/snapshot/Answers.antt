use Rattle.std.proofs.lemmas.Result.{on_ok_weaker}
use Rattle.twin_databases.proofs.full_side.KeylessMmrOperationVariableJournalOperationSha256HasherDatabase.snapshot.Goals as goal

pub returns-clause-inserted : goal.returns-clause-inserted
returns-clause-inserted c =
    on_ok_weaker c.to_batch.result (λ (x, put, none, bounds, marks, of). (x, put, bounds, λ kept image is. (of kept.ops image is.held, marks))) c.to_batch.ensures.inserted
