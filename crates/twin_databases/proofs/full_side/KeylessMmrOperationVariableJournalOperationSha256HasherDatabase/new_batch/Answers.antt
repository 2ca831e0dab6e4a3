use Rattle.std.proofs.lemmas.Result.{IfOk-weaker}
use Rattle.twin_databases.proofs.full_side.KeylessMmrOperationVariableJournalOperationSha256HasherDatabase.new_batch.Goals as goal

pub returns-clause-list : goal.returns-clause-list
returns-clause-list c = IfOk-weaker c.new_batch.result _ _ (λ u of kept image is. of kept.ops image is.held) c.new_batch.ensures.list
