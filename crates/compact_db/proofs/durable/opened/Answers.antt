use Rattle.std.proofs.Common.{refl}
use Rattle.volume_base.specs.Log.{Stays}
use Rattle.volume_base.proofs.CallLemmas.{log_call_none}
use Rattle.compact_db.proofs.durable.opened.Goals as goal

pub returns-in-Open-clause-log : goal.returns-in-Open-clause-log
returns-in-Open-clause-log g c told = rw c.in-Open.is (log_call_none _ Stays _ (λ log. refl))
