use Rattle.volume_base.proofs.CallLemmas.{log_call_none}
use Rattle.volume_base.proofs.StepLemmas.{grows_same}
use Rattle.journal_base.proofs.journal.JournalMutable.append.Goals as goal

pub returns-in_err-encoding-clause-log : goal.returns-in_err-encoding-clause-log
returns-in_err-encoding-clause-log g c alone told = log_call_none _ _ _ (grows_same _ _)
