use Rattle.std.proofs.Common.{min, ◌∙◌, ap}
use Rattle.std.specs.NonZero.{non_zero_u64_get}
use Rattle.volume_base.specs.Log.{end_of}
use Rattle.volume_base.proofs.CallLemmas.{log_call_none, log_call_read, log_call_after_read}
use Rattle.journal_base.specs.Blobs.{blob_start}
use Rattle.journal_base.proofs.StepLemmas.{advances_same}
use Rattle.journal_base.proofs.journal.JournalMutable.prune.Goals as goal

pub returns-then-self-clause-log : goal.returns-then-self-clause-log
returns-then-self-clause-log g c alone told = log_call_none _ _ _ (advances_same _)

pub returns-in_err-start-clause-log : goal.returns-in_err-start-clause-log
returns-in_err-start-clause-log g c alone told = log_call_read _ _ _ _ (advances_same _) _ _ _ c.log_bounds.ensures.answers told

pub returns-then-to-start-clause-log : goal.returns-then-to-start-clause-log
returns-then-to-start-clause-log g c alone told = log_call_read _ _ _ _ (advances_same _) _ _ _ c.log_bounds.ensures.answers told

pub returns-in_err-log_prune-clause-log : goal.returns-in_err-log_prune-clause-log
returns-in_err-log_prune-clause-log g c alone told =
    let end_is = c.in_ok-start.ensures.end told ∙ ap (λ n. end_of ((g.V.Volume.state c.args.vol.now).log n)) c.as_str-name.ensures.value in
    let to_is = c.start_of_blob-to.ensures.start ∙ ap (blob_start (non_zero_u64_get c.args.self.items_per_blob)) (c.min.ensures ∙ ap (min c.args.least) end_is) in
    let pruned = rw (to_is, c.as_str-name.ensures.value) at (c.log_prune.ensures.call.log told) in
    log_call_after_read _ _ _ _ (advances_same _) _ _ _ c.log_bounds.ensures.answers _ told pruned

pub returns-clause-log : goal.returns-clause-log
returns-clause-log g c alone told =
    let end_is = c.in_ok-start.ensures.end told ∙ ap (λ n. end_of ((g.V.Volume.state c.args.vol.now).log n)) c.as_str-name.ensures.value in
    let to_is = c.start_of_blob-to.ensures.start ∙ ap (blob_start (non_zero_u64_get c.args.self.items_per_blob)) (c.min.ensures ∙ ap (min c.args.least) end_is) in
    let pruned = rw (to_is, c.as_str-name.ensures.value) at (c.log_prune.ensures.call.log told) in
    log_call_after_read _ _ _ _ (advances_same _) _ _ _ c.log_bounds.ensures.answers _ told pruned
