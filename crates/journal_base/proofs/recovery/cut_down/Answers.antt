use Rattle.std.proofs.Common.{rules}
use Rattle.volume_base.proofs.CallLemmas.{log_call_none}
use Rattle.volume_base.proofs.StepLemmas.{shrinks_same}
use Rattle.journal_base.proofs.recovery.cut_down.Goals as goal

pub returns-else-to-end-clause-call : goal.returns-else-to-end-clause-call
returns-else-to-end-clause-call g c = record { log = λ told. log_call_none _ _ _ (shrinks_same _); writes = search rules }
