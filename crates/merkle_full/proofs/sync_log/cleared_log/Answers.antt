use Rattle.merkle_full.proofs.LiftedLemmas.{err_lifted}
use Rattle.merkle_full.proofs.sync_log.cleared_log.Goals as goal

pub returns-in_err-cleared-clause-errors : goal.returns-in_err-cleared-clause-errors
returns-in_err-cleared-clause-errors g c = err_lifted c.from_residual.result c.in_err-cleared.field-0.0 c.from_residual.ensures.1

pub returns-in_err-journal-clause-errors : goal.returns-in_err-journal-clause-errors
returns-in_err-journal-clause-errors g c = err_lifted c.from_residual-in_err-journal.result c.in_err-journal.field-0.0 c.from_residual-in_err-journal.ensures.1
