use Rattle.std.proofs.Common.{min, take, sym, subst, rules, ◌∙◌, ap, arith}
use Rattle.volume_base.specs.Log.{Log, end_of, cut_to}
use Rattle.volume_base.proofs.CallLemmas.{log_call_read, log_call_after_read, log_call_then_stays}
use Rattle.volume_base.proofs.StepLemmas.{shrinks_same, cut_to_lesser}
use Rattle.journal_base.specs.Items.{Spells}
use Rattle.journal_base.proofs.ItemLemmas.{spells_cut}
use Rattle.journal_base.proofs.recovery.RecoveryBackingRecovery.finish.Goals as goal

pub returns-in_err-start-clause-call : goal.returns-in_err-start-clause-call
returns-in_err-start-clause-call g c = record {
  log = log_call_read _ _ _ _ (shrinks_same _) _ _ _ c.log_bounds.ensures.answers;
  writes = search rules;
}

pub returns-then-size-start-clause-call : goal.returns-then-size-start-clause-call
returns-then-size-start-clause-call g c = record {
  log = log_call_read _ _ _ _ (shrinks_same _) _ _ _ c.log_bounds.ensures.answers;
  writes = search rules;
}

pub returns-in_err-cut_down-clause-call : goal.returns-in_err-cut_down-clause-call
returns-in_err-cut_down-clause-call g c = record {
  log = λ told.
      let to_is = c.min-to.ensures ∙ ap (min c.args.size) (c.in_ok-start.ensures.end told ∙ ap (λ n. end_of ((g.V.Volume.state c.args.vol.now).log n)) c.as_str-name.ensures.value) in
      let cut = rw (to_is, c.as_str-name.ensures.value) at (c.cut_down.ensures.call.log told) in
      log_call_after_read _ _ _ _ (shrinks_same _) _ _ _ c.log_bounds.ensures.answers _ told cut;
  writes = search rules;
}

pub returns-in_err-log_sync-clause-call : goal.returns-in_err-log_sync-clause-call
returns-in_err-log_sync-clause-call g c = record {
  log = λ told.
      let to_is = c.min-to.ensures ∙ ap (min c.args.size) (c.in_ok-start.ensures.end told ∙ ap (λ n. end_of ((g.V.Volume.state c.args.vol.now).log n)) c.as_str-name.ensures.value) in
      let cut = rw (to_is, c.as_str-name.ensures.value) at (c.cut_down.ensures.call.log told) in
      let synced = rw (c.as_str-name.ensures.value) at (c.log_sync.ensures.call.log told) in
      log_call_then_stays _ _ _ _ _ (log_call_after_read _ _ _ _ (shrinks_same _) _ _ _ c.log_bounds.ensures.answers _ told cut) synced;
  writes = search rules;
}

pub returns-clause-cut : goal.returns-clause-cut
returns-clause-cut g c told =
    let log_is = (c.log_bounds.ensures.answers.contents told).logs c.as_str-name.result.now in
    let to_is = c.min-to.ensures ∙ ap (min c.args.size) (c.in_ok-start.ensures.end told) in
    let cut = c.log_sync.ensures.contents told ∙ c.in_ok-cut_down.ensures.cut told ∙ ap (λ l. cut_to l c.min-to.result) log_is ∙ ap (cut_to ((g.V.Volume.state c.args.vol.now).log c.as_str-name.result.now)) to_is ∙ cut_to_lesser _ c.args.size in
    rw c.as_str-name.ensures.value at cut

pub returns-clause-durable : goal.returns-clause-durable
returns-clause-durable g c told = let only = rw c.as_str-name.ensures.value at (c.in_ok-log_sync.ensures.durable told) in only

pub returns-clause-call : goal.returns-clause-call
returns-clause-call g c = record {
  log = λ told.
      let to_is = c.min-to.ensures ∙ ap (min c.args.size) (c.in_ok-start.ensures.end told ∙ ap (λ n. end_of ((g.V.Volume.state c.args.vol.now).log n)) c.as_str-name.ensures.value) in
      let cut = rw (to_is, c.as_str-name.ensures.value) at (c.cut_down.ensures.call.log told) in
      let synced = rw (c.as_str-name.ensures.value) at (c.log_sync.ensures.call.log told) in
      log_call_then_stays _ _ _ _ _ (log_call_after_read _ _ _ _ (shrinks_same _) _ _ _ c.log_bounds.ensures.answers _ told cut) synced;
  writes = search rules;
}

pub returns-clause-listed : goal.returns-clause-listed
returns-clause-listed g c told list run =
    let start_is = rw c.as_str-name.ensures.value at (c.in_ok-start.ensures.start told) in
    subst (λ (l : Log). Spells g.T.Spelled.spelling (take c.args.size list) l) (sym (returns-clause-cut g c told)) (spells_cut _ list _ c.args.size (omega (arith, start_is)) run)
