use Rattle.std.proofs.Common.{ap}
use Rattle.journal_base.specs.View.{View}
use Rattle.volume_base.proofs.CallLemmas.{log_call_then_stays}
use Rattle.witness_store.proofs.pruning.drop_to.Goals as goal

pub returns-in_err-journal-2-clause-log : goal.returns-in_err-journal-2-clause-log
returns-in_err-journal-2-clause-log g c told =
    let name_is = ap (λ (v : View (Unit {0})). v.name) c.in_ok-journal.ensures.made in
    log_call_then_stays _ _ _ _ _ (c.prune.ensures.log tt told) (rw name_is at (c.sync.ensures.log tt told))

pub returns-clause-log : goal.returns-clause-log
returns-clause-log g c told =
    let name_is = ap (λ (v : View (Unit {0})). v.name) c.in_ok-journal.ensures.made in
    log_call_then_stays _ _ _ _ _ (c.prune.ensures.log tt told) (rw name_is at (c.sync.ensures.log tt told))
