use Rattle.std.proofs.Common.{◌∙◌}
use Rattle.std.proofs.lemmas.Result.{IfOk-weaker}
use Rattle.twin_databases.proofs.CompactLemmas.{value_by_last}
use Rattle.twin_databases.proofs.compact_side.CompactDbMmrOperationSha256HasherDatabase.metadata.Goals as goal

pub returns-clause-value : goal.returns-clause-value
returns-clause-value g c =
    IfOk-weaker c.get_metadata.result _ _ (λ value is kept image of. is ∙ value_by_last kept.ops c.args.self.now.commit of.held.list.commit_is)
    c.get_metadata.ensures.value
