use Rattle.std.proofs.Common.{inl, refl, min, ◌∙◌, ap}
use Rattle.std.specs.NonZero.{non_zero_u64_get}
use Rattle.journal_base.specs.Blobs.{blob_start}
use Rattle.journal_base.proofs.StepLemmas.{advances_same}
use Rattle.volume_base.specs.Log.{Log, end_of, pruned_to}
use Rattle.volume_base.proofs.CallLemmas.{log_call_after_read, names_call_log}
use Rattle.witness_store.specs.Witnesses.{kept_from}
use Rattle.witness_store.proofs.pruning.drop_below.Goals as goal

pub returns-in_err-journal-clause-names : goal.returns-in_err-journal-clause-names
returns-in_err-journal-clause-names g c told =
    names_call_log _ _ _ _ _ (inl refl) (log_call_after_read _ _ _ _ (advances_same _) _ _ _ c.kept_start.ensures.answers _ told (c.drop_to.ensures.log told))

pub returns-in_err-journal-clause-log : goal.returns-in_err-journal-clause-log
returns-in_err-journal-clause-log g c told held ws keeps =
    let same = (c.kept_start.ensures.answers.contents told).logs _ in
    let point = ap (λ (l : Log). min c.in_ok-least.least (end_of l)) same ∙ c.in_ok-least.ensures.place told held ws keeps in
    log_call_after_read _ _ _ _ (advances_same _) _ _ _ c.kept_start.ensures.answers _ told (rw point at (c.drop_to.ensures.log told))

pub returns-clause-pruned : goal.returns-clause-pruned
returns-clause-pruned g c told held ws keeps =
    let same = (c.kept_start.ensures.answers.contents told).logs _ in
    let point = ap (λ (l : Log). min c.in_ok-least.least (end_of l)) same ∙ c.in_ok-least.ensures.place told held ws keeps in
    let pruned = rw point at (c.in_ok-journal.ensures.pruned told) in
    pruned ∙ ap (λ (l : Log). pruned_to l (blob_start (non_zero_u64_get c.args.journal.items_per_blob) (kept_from ws c.args.journal.start c.args.boundary))) same

pub returns-clause-names : goal.returns-clause-names
returns-clause-names g c told =
    names_call_log _ _ _ _ _ (inl refl) (log_call_after_read _ _ _ _ (advances_same _) _ _ _ c.kept_start.ensures.answers _ told (c.drop_to.ensures.log told))

pub returns-clause-log : goal.returns-clause-log
returns-clause-log g c told held ws keeps =
    let same = (c.kept_start.ensures.answers.contents told).logs _ in
    let point = ap (λ (l : Log). min c.in_ok-least.least (end_of l)) same ∙ c.in_ok-least.ensures.place told held ws keeps in
    log_call_after_read _ _ _ _ (advances_same _) _ _ _ c.kept_start.ensures.answers _ told (rw point at (c.drop_to.ensures.log told))
