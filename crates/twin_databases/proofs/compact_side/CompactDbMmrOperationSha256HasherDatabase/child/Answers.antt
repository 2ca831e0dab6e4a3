use Rattle.std.proofs.Common.{◌∙◌, ap}
use Rattle.std.proofs.lemmas.Result.{IfOk-weaker}
use Rattle.compact_db.specs.Batches.{link_marks}
use Rattle.twin_databases.proofs.compact_side.CompactDbMmrOperationSha256HasherDatabase.child.Goals as goal

pub returns-clause-marks : goal.returns-clause-marks
returns-clause-marks c = IfOk-weaker c.new_batch.result _ _ (λ u child x there list sealed. ap link_marks (child x there).0.links ∙ sealed.1) c.new_batch.ensures.child
