use Rattle.volume_base.proofs.CallLemmas.{log_call_read}
use Rattle.volume_base.proofs.StepLemmas.{grows_same}
use Rattle.journal_base.proofs.journal.Journal.put.Goals as goal

pub returns-in_err-start-clause-log : goal.returns-in_err-start-clause-log
returns-in_err-start-clause-log g c told = log_call_read _ _ _ _ (grows_same _ _) _ _ _ c.log_bounds.ensures.answers told
