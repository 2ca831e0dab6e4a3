use Rattle.std.proofs.Common.{◌≡◌, refl, sym, ◌∙◌, ap}
use Rattle.std.specs.Prelude.{Ok}
use Rattle.log_model.specs.Machine.{pruned}
use Rattle.command_text.specs.declared.command.Answer.TheVariants as answer
use Rattle.volume_base.proofs.CallLemmas.{names_call_none}
use Rattle.volume_base.proofs.JoinLemmas.{went_none}
use Rattle.list_machine.specs.Step.{prune}
use Rattle.twin_batches.proofs.Quiet.{prune_kept}
use Rattle.twin_databases.proofs.WentLemmas.{changes_ok, changes_err}
use Rattle.twin_run.proofs.BothFaults.{refused_unlike, both_refuse, alike_ok, both_take}
use Rattle.twin_run.proofs.BothSides.{on_same, on_settled, shaped_settled, refused_meet, named_meet, prune_unrefused, low_where}
use Rattle.twin_run.proofs.BothMoments.{takes_ok, takes_err, takes_here, takes_named, takes_nothing}
use Rattle.twin_run.proofs.BothStates.{stands_same}
use Rattle.twin_run.proofs.sides.Twins.prune.Goals as goal

pub cut-requires-clause-full_low : goal.cut-requires-clause-full_low
cut-requires-clause-full_low g c = low_where _ _ _ _ c.prune_refusal-full.ensures.past
    (both_take _ _ _ c.refusal_of_both.ensures (c.in-Ok-None.is ∙ ap Ok c.in-Ok-None.field-0-is)).0

pub cut-requires-clause-compact_low : goal.cut-requires-clause-compact_low
cut-requires-clause-compact_low g c = low_where _ _ _ _ c.prune_refusal.ensures.past
    (both_take _ _ _ c.refusal_of_both.ensures (c.in-Ok-None.is ∙ ap Ok c.in-Ok-None.field-0-is)).1

pub returns-in-Ok-clause-ok : goal.returns-in-Ok-clause-ok
returns-in-Ok-clause-ok g c = λ told config s lists of.
    let none = (both_take _ _ _ c.refusal_of_both.ensures (c.in-Ok-None.is ∙ ap Ok c.in-Ok-None.field-0-is)).0 in
    let twins = c.in-Ok.ensures.ok told config s of in
    named_meet config _ c.in-Ok.twins s _ _ _ (prune_unrefused config.log_blob config.witness_blob s c.args.location
    (sym none ∙ c.prune_refusal-full.ensures.machine _ s of.full)) (
      ap answer.Pruned (c.start-start.ensures _ (pruned config.log_blob config.witness_blob s c.args.location)
          twins.full),
      twins,
    )

pub returns-in-Ok-clause-shaped : goal.returns-in-Ok-clause-shaped
returns-in-Ok-clause-shaped g c = shaped_settled c.args.self c.in-Ok.twins c.requires c.in-Ok.ensures.settled

pub returns-in-Ok-clause-goes_on : goal.returns-in-Ok-clause-goes_on
returns-in-Ok-clause-goes_on g c = on_settled c.args.self c.in-Ok.twins c.in-Ok.ensures.settled

pub returns-in-Ok-clause-durable : goal.returns-in-Ok-clause-durable
returns-in-Ok-clause-durable g c = λ told config s of start is. c.in-Ok.ensures.durable told config s of

pub returns-in-Ok-Some-clause-durable : goal.returns-in-Ok-Some-clause-durable
returns-in-Ok-Some-clause-durable g c = λ told config s of start is.
    absurd (let never : answer.Refused c.in-Ok-Some.why ≡ answer.Pruned start = is in cc)

pub returns-in-Ok-Some-clause-ok : goal.returns-in-Ok-Some-clause-ok
returns-in-Ok-Some-clause-ok g c = λ told config s lists of.
    let why = both_refuse _ _ _ c.refusal_of_both.ensures _ (c.in-Ok-Some.is ∙ ap Ok c.in-Ok-Some.field-0-is) in
    let kept = prune_kept s c.in-Ok-Some.why config.log_blob config.witness_blob c.args.location
    (sym why ∙ c.prune_refusal-full.ensures.machine _ s of.full) in
    refused_meet config _ c.args.self s _ _ c.in-Ok-Some.why kept refl of

pub returns-in-Ok-Some-clause-goes_on : goal.returns-in-Ok-Some-clause-goes_on
returns-in-Ok-Some-clause-goes_on g c = on_same c.args.self c.requires

pub returns-in-Ok-Some-clause-names : goal.returns-in-Ok-Some-clause-names
returns-in-Ok-Some-clause-names g c = λ told. names_call_none _ _

pub returns-in-Ok-Some-clause-changes : goal.returns-in-Ok-Some-clause-changes
returns-in-Ok-Some-clause-changes g c = changes_ok _ _ _ _ _ (went_none _ _)

pub returns-in-Err-clause-corrupt : goal.returns-in-Err-clause-corrupt
returns-in-Err-clause-corrupt g c = λ told config s lists of is.
    alike_ok _ _ _ c.refusal_of_both.ensures (c.prune_refusal-full.ensures.machine _ s of.full
    ∙ sym (c.prune_refusal.ensures.machine _ s of.compact)) c.in-Err.fault c.in-Err.is

pub returns-in-Err-clause-own : goal.returns-in-Err-clause-own
returns-in-Err-clause-own g c = (refused_unlike _ _ _ c.refusal_of_both.ensures c.in-Err.fault c.in-Err.is).own

pub returns-in-Err-clause-names : goal.returns-in-Err-clause-names
returns-in-Err-clause-names g c = λ told. names_call_none _ _

pub returns-in-Err-clause-changes : goal.returns-in-Err-clause-changes
returns-in-Err-clause-changes g c = changes_err _ _ _ _ _
    (refused_unlike _ _ _ c.refusal_of_both.ensures c.in-Err.fault c.in-Err.is).other (went_none _ _)

pub returns-in-Err-cut-clause-corrupt : goal.returns-in-Err-cut-clause-corrupt
returns-in-Err-cut-clause-corrupt g c = λ told config s lists of. c.in-Err-cut.ensures.corrupt told config s of

pub returns-in-Ok-clause-images : goal.returns-in-Ok-clause-images
returns-in-Ok-clause-images g c = λ told config s lists of.
    let none = (both_take _ _ _ c.refusal_of_both.ensures (c.in-Ok-None.is ∙ ap Ok c.in-Ok-None.field-0-is)).0 in
    let next = pruned config.log_blob config.witness_blob s c.args.location in
    let done = prune_unrefused config.log_blob config.witness_blob s c.args.location
    (sym none ∙ c.prune_refusal-full.ensures.machine _ s of.full) in
    takes_named config s next _ _ _ (prune config.log_blob config.witness_blob s c.args.location)
    (ap (λ o. o.1) done)
    (takes_ok config s next _ _ c.in-Ok.twins _ (c.in-Ok.ensures.images told config s of))

pub returns-in-Err-cut-clause-images : goal.returns-in-Err-cut-clause-images
returns-in-Err-cut-clause-images g c = λ told config s lists of.
    let none = (both_take _ _ _ c.refusal_of_both.ensures (c.in-Ok-None.is ∙ ap Ok c.in-Ok-None.field-0-is)).0 in
    let next = pruned config.log_blob config.witness_blob s c.args.location in
    let done = prune_unrefused config.log_blob config.witness_blob s c.args.location
    (sym none ∙ c.prune_refusal-full.ensures.machine _ s of.full) in
    takes_named config s next _ _ _ (prune config.log_blob config.witness_blob s c.args.location)
    (ap (λ o. o.1) done)
    (takes_err config s next _ _ c.in-Err-cut.fault _ (c.in-Err-cut.ensures.images told config s of))

pub returns-in-Ok-Some-clause-images : goal.returns-in-Ok-Some-clause-images
returns-in-Ok-Some-clause-images g c = λ told config s lists of.
    let why = both_refuse _ _ _ c.refusal_of_both.ensures _ (c.in-Ok-Some.is ∙ ap Ok c.in-Ok-Some.field-0-is) in
    let kept = prune_kept s c.in-Ok-Some.why config.log_blob config.witness_blob c.args.location
    (sym why ∙ c.prune_refusal-full.ensures.machine _ s of.full) in
    let next = (prune config.log_blob config.witness_blob s c.args.location).1 in
    takes_here config s next _ _ (stands_same config s next (ap (λ o. o.1) kept))

pub returns-in-Err-clause-images : goal.returns-in-Err-clause-images
returns-in-Err-clause-images g c = λ told config s lists of.
    takes_nothing config s (prune config.log_blob config.witness_blob s c.args.location).1 _ _
