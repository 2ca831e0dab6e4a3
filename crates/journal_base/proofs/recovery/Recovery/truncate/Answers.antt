use Rattle.std.proofs.Common.{min, arith, rules}
use Rattle.volume_base.proofs.CallLemmas.{log_call_read, log_call_after_read, log_call_wider}
use Rattle.volume_base.proofs.StepLemmas.{shrinks_same}
use Rattle.volume_base.specs.Log.{Shrinks}
use Rattle.journal_base.proofs.StepLemmas.{shrinks_wider}
use Rattle.journal_base.proofs.recovery.Recovery.truncate.Goals as goal

pub returns-in_err-start-clause-call : goal.returns-in_err-start-clause-call
returns-in_err-start-clause-call g c = record {
  log = log_call_read _ _ _ _ (shrinks_same _) _ _ _ c.log_bounds.ensures.answers;
  writes = search rules;
}

pub returns-then-size-start-clause-call : goal.returns-then-size-start-clause-call
returns-then-size-start-clause-call g c = record {
  log = log_call_read _ _ _ _ (shrinks_same _) _ _ _ c.log_bounds.ensures.answers;
  writes = search rules;
}

pub returns-in_err-cut_down-clause-call : goal.returns-in_err-cut_down-clause-call
returns-in_err-cut_down-clause-call g c = record {
  log = λ told.
      let cut = rw c.as_str-name.ensures.value at (c.cut_down.ensures.call.log told) in
      let wide = log_call_wider _ _ (Shrinks (min c.args.size c.args.self.seen.end)) _ _ cut (λ old new. shrinks_wider _ _ old new (omega (arith, c.max-to.ensures, c.min.ensures))) in
      log_call_after_read _ _ _ _ (shrinks_same _) _ _ _ c.log_bounds.ensures.answers _ told wide;
  writes = search rules;
}

pub returns-clause-call : goal.returns-clause-call
returns-clause-call g c = record {
  log = λ told.
      let cut = rw c.as_str-name.ensures.value at (c.cut_down.ensures.call.log told) in
      let wide = log_call_wider _ _ (Shrinks (min c.args.size c.args.self.seen.end)) _ _ cut (λ old new. shrinks_wider _ _ old new (omega (arith, c.max-to.ensures, c.min.ensures))) in
      log_call_after_read _ _ _ _ (shrinks_same _) _ _ _ c.log_bounds.ensures.answers _ told wide;
  writes = search rules;
}
