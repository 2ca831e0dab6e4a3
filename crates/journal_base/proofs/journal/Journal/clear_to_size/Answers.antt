use Rattle.std.proofs.Common.{rules}
use Rattle.volume_base.proofs.CallLemmas.{log_call_none}
use Rattle.journal_base.proofs.StepLemmas.{becomes_same}
use Rattle.journal_base.proofs.journal.Journal.clear_to_size.Goals as goal

pub returns-then-size-eq18446744073709551615-clause-clears : goal.returns-then-size-eq18446744073709551615-clause-clears
returns-then-size-eq18446744073709551615-clause-clears g c = record {
  overflow = search rules;
  cleared = search rules;
  durable = search rules;
  refused = search rules;
  errors = search rules;
  call = record { log = λ told. log_call_none _ _ _ (becomes_same _); writes = search rules };
}
