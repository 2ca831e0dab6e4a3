use Rattle.std.proofs.Common.{min, rules, ◌∙◌, ap}
use Rattle.std.specs.NonZero.{non_zero_u64_get}
use Rattle.volume_base.specs.Log.{end_of}
use Rattle.volume_base.proofs.CallLemmas.{log_call_read, log_call_after_read}
use Rattle.journal_base.specs.Blobs.{blob_start}
use Rattle.journal_base.proofs.StepLemmas.{advances_same}
use Rattle.journal_base.proofs.recovery.Recovery.prune.Goals as goal

pub returns-in_err-start-clause-call : goal.returns-in_err-start-clause-call
returns-in_err-start-clause-call g c = record {
  log = log_call_read _ _ _ _ (advances_same _) _ _ _ c.log_bounds.ensures.answers;
  writes = search rules;
}

pub returns-then-to-start-clause-call : goal.returns-then-to-start-clause-call
returns-then-to-start-clause-call g c = record {
  log = log_call_read _ _ _ _ (advances_same _) _ _ _ c.log_bounds.ensures.answers;
  writes = search rules;
}

pub returns-in_err-log_prune-clause-call : goal.returns-in_err-log_prune-clause-call
returns-in_err-log_prune-clause-call g c = record {
  log = λ told.
      let end_is = c.in_ok-start.ensures.end told ∙ ap (λ n. end_of ((g.V.Volume.state c.args.vol.now).log n)) c.as_str-name.ensures.value in
      let top_is = c.min-top.ensures ∙ ap (λ n. min n c.in_ok-start.end) c.min.ensures ∙ ap (min (min c.args.least c.args.self.seen.end)) end_is in
      let to_is = c.start_of_blob-to.ensures.start ∙ ap (blob_start (non_zero_u64_get c.args.self.seen.items_per_blob)) top_is in
      let pruned = rw (to_is, c.as_str-name.ensures.value) at (c.log_prune.ensures.call.log told) in
      log_call_after_read _ _ _ _ (advances_same _) _ _ _ c.log_bounds.ensures.answers _ told pruned;
  writes = search rules;
}

pub returns-clause-call : goal.returns-clause-call
returns-clause-call g c = record {
  log = λ told.
      let end_is = c.in_ok-start.ensures.end told ∙ ap (λ n. end_of ((g.V.Volume.state c.args.vol.now).log n)) c.as_str-name.ensures.value in
      let top_is = c.min-top.ensures ∙ ap (λ n. min n c.in_ok-start.end) c.min.ensures ∙ ap (min (min c.args.least c.args.self.seen.end)) end_is in
      let to_is = c.start_of_blob-to.ensures.start ∙ ap (blob_start (non_zero_u64_get c.args.self.seen.items_per_blob)) top_is in
      let pruned = rw (to_is, c.as_str-name.ensures.value) at (c.log_prune.ensures.call.log told) in
      log_call_after_read _ _ _ _ (advances_same _) _ _ _ c.log_bounds.ensures.answers _ told pruned;
  writes = search rules;
}
