use Rattle.volume_base.proofs.CallLemmas.{log_call_none}
use Rattle.volume_base.proofs.StepLemmas.{grows_same}
use Rattle.journal_base.proofs.recovery.JournalBacking.append_encoded.Goals as goal

pub returns-then-is_empty-clause-log : goal.returns-then-is_empty-clause-log
returns-then-is_empty-clause-log g c told = log_call_none _ _ _ (grows_same _ _)
