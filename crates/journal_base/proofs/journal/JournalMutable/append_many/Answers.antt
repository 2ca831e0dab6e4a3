use Rattle.volume_base.proofs.CallLemmas.{log_call_none}
use Rattle.volume_base.proofs.StepLemmas.{grows_same}
use Rattle.journal_base.proofs.journal.JournalMutable.append_many.Goals as goal

pub returns-in_err-encodings-clause-log : goal.returns-in_err-encodings-clause-log
returns-in_err-encodings-clause-log g c alone told = log_call_none _ _ _ (grows_same _ _)

pub returns-then-is_empty-clause-log : goal.returns-then-is_empty-clause-log
returns-then-is_empty-clause-log g c alone told = log_call_none _ _ _ (grows_same _ _)
