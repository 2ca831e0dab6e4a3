use Rattle.std.proofs.Common.{refl, sym, ◌∙◌, ap}
use Rattle.std.specs.Prelude.{Ok}
use Rattle.log_model.specs.Machine.{batch_at}
use Rattle.volume_base.proofs.CallLemmas.{names_call_none}
use Rattle.list_machine.specs.Step.{apply}
use Rattle.twin_batches.proofs.Quiet.{apply_kept, apply_done}
use Rattle.twin_batches.proofs.Writing.{writes_ok, writes_err, writes_nothing, writes_none}
use Rattle.twin_run.proofs.BothFaults.{refused_unlike, both_refuse, alike_ok, both_take}
use Rattle.twin_run.proofs.BothSides.{on_same, refused_meet}
use Rattle.twin_run.proofs.BothMoments.{takes_ok, takes_err, takes_here, takes_nothing}
use Rattle.twin_run.proofs.BothStates.{stands_same}
use Rattle.twin_run.proofs.sides.Twins.apply.Goals as goal

pub apply_both-requires-clause-full_takes : goal.apply_both-requires-clause-full_takes
apply_both-requires-clause-full_takes g c = c.apply_refusal-full.ensures.takes
    (both_take _ _ _ c.refusal_of_both.ensures (c.in-Ok-None.is ∙ ap Ok c.in-Ok-None.field-0-is)).0

pub apply_both-requires-clause-compact_takes : goal.apply_both-requires-clause-compact_takes
apply_both-requires-clause-compact_takes g c = c.apply_refusal.ensures.takes
    (both_take _ _ _ c.refusal_of_both.ensures (c.in-Ok-None.is ∙ ap Ok c.in-Ok-None.field-0-is)).1

pub returns-in-Ok-clause-ok : goal.returns-in-Ok-clause-ok
returns-in-Ok-clause-ok g c = λ told config s lists of.
    let none = (both_take _ _ _ c.refusal_of_both.ensures (c.in-Ok-None.is ∙ ap Ok c.in-Ok-None.field-0-is)).0 in (
      apply_done s c.args.b (sym none ∙ c.apply_refusal-full.ensures.machine _ s lists of.full),
      c.in-Ok.ensures.ok told config s lists of,
    )

pub returns-in-Ok-clause-writes : goal.returns-in-Ok-clause-writes
returns-in-Ok-clause-writes g c = writes_ok _ _ _ _ _ _ c.in-Ok.ensures.writes

pub returns-in-Err-apply_both-clause-writes : goal.returns-in-Err-apply_both-clause-writes
returns-in-Err-apply_both-clause-writes g c = writes_err _ _ _ _ _ c.in-Err-apply_both.ensures.writes

pub returns-in-Ok-Some-clause-ok : goal.returns-in-Ok-Some-clause-ok
returns-in-Ok-Some-clause-ok g c = λ told config s lists of.
    let why = both_refuse _ _ _ c.refusal_of_both.ensures _ (c.in-Ok-Some.is ∙ ap Ok c.in-Ok-Some.field-0-is) in
    let kept = apply_kept s c.in-Ok-Some.refusal c.args.b
    (sym why ∙ c.apply_refusal-full.ensures.machine _ s lists of.full) in
    refused_meet config _ c.args.self s _ _ c.in-Ok-Some.refusal kept refl of

pub returns-in-Ok-Some-clause-goes_on : goal.returns-in-Ok-Some-clause-goes_on
returns-in-Ok-Some-clause-goes_on g c = on_same c.args.self c.requires

pub returns-in-Ok-Some-clause-names : goal.returns-in-Ok-Some-clause-names
returns-in-Ok-Some-clause-names g c = λ told. names_call_none _ _

pub returns-in-Ok-Some-clause-writes : goal.returns-in-Ok-Some-clause-writes
returns-in-Ok-Some-clause-writes g c = writes_nothing _ _ _ _

pub returns-in-Err-clause-corrupt : goal.returns-in-Err-clause-corrupt
returns-in-Err-clause-corrupt g c = λ told config s lists of is.
    alike_ok _ _ _ c.refusal_of_both.ensures (c.apply_refusal-full.ensures.machine _ s lists of.full
    ∙ sym (c.apply_refusal.ensures.machine _ s lists of.compact)) c.in-Err.fault c.in-Err.is

pub returns-in-Err-clause-own : goal.returns-in-Err-clause-own
returns-in-Err-clause-own g c = (refused_unlike _ _ _ c.refusal_of_both.ensures c.in-Err.fault c.in-Err.is).own

pub returns-in-Err-clause-names : goal.returns-in-Err-clause-names
returns-in-Err-clause-names g c = λ told. names_call_none _ _

pub returns-in-Err-clause-writes : goal.returns-in-Err-clause-writes
returns-in-Err-clause-writes g c = writes_none _ _ _ _
    (refused_unlike _ _ _ c.refusal_of_both.ensures c.in-Err.fault c.in-Err.is).other

pub returns-in-Ok-clause-images : goal.returns-in-Ok-clause-images
returns-in-Ok-clause-images g c = λ told config s lists of.
    takes_ok config s (apply s c.args.b (batch_at s c.args.b)).1 _ _ c.in-Ok.twins _
    (c.in-Ok.ensures.images told config s lists of)

pub returns-in-Err-apply_both-clause-images : goal.returns-in-Err-apply_both-clause-images
returns-in-Err-apply_both-clause-images g c = λ told config s lists of.
    takes_err config s (apply s c.args.b (batch_at s c.args.b)).1 _ _ c.in-Err-apply_both.fault _
    (c.in-Err-apply_both.ensures.images told config s lists of)

pub returns-in-Ok-Some-clause-images : goal.returns-in-Ok-Some-clause-images
returns-in-Ok-Some-clause-images g c = λ told config s lists of.
    let why = both_refuse _ _ _ c.refusal_of_both.ensures _ (c.in-Ok-Some.is ∙ ap Ok c.in-Ok-Some.field-0-is) in
    let kept = apply_kept s c.in-Ok-Some.refusal c.args.b
    (sym why ∙ c.apply_refusal-full.ensures.machine _ s lists of.full) in
    let next = (apply s c.args.b (batch_at s c.args.b)).1 in
    takes_here config s next _ _ (stands_same config s next (ap (λ o. o.1) kept))

pub returns-in-Err-clause-images : goal.returns-in-Err-clause-images
returns-in-Err-clause-images g c = λ told config s lists of.
    takes_nothing config s (apply s c.args.b (batch_at s c.args.b)).1 _ _
