use Rattle.std.proofs.Common.{sym, ◌∙◌, subst}
use Rattle.log_model.specs.Machine.{batch_at}
use Rattle.command_text.specs.declared.command.Command.TheVariants as command
use Rattle.list_machine.specs.Step.{apply}
use Rattle.twin_batches.specs.StateOf.{IsShaped}
use Rattle.twin_databases.specs.CompactKind.{compact_kind}
use Rattle.twin_databases.specs.FullKind.{full_kind}
use Rattle.twin_run.proofs.BothFaults.{full_is_own, full_is_outside, full_writes, compact_is_own, compact_is_outside, compact_writes, unlike_told, writes_fail, writes_done, writes_refused}
use Rattle.twin_run.proofs.BothSides.{next_good, states_equal, on_changed, shaped_on, full_called, compact_waits, both_called, called_twins}
use Rattle.twin_run.proofs.FaultLemmas.{unlike_same}
use Rattle.twin_run.proofs.BothMoments.{apply_stops, apply_goes}
use Rattle.twin_run.proofs.BothStates.{applied_longer}
use Rattle.twin_run.proofs.sides.Twins.apply_both.Goals as goal

pub returns-in-Err-clause-corrupt : goal.returns-in-Err-clause-corrupt
returns-in-Err-clause-corrupt g c = λ told config s lists of.
    full_is_outside c.in-Err.error _ c.full_fault.ensures (c.in-Err.ensures.errors told s lists of.full)

pub returns-in-Err-clause-own : goal.returns-in-Err-clause-own
returns-in-Err-clause-own g c = full_is_own c.in-Err.error _ c.full_fault.ensures

pub returns-in-Err-clause-names : goal.returns-in-Err-clause-names
returns-in-Err-clause-names g c = λ told. full_called c.args.self c.requires.shaped _ _ (c.in-Err.ensures.names told)

pub returns-in-Err-clause-writes : goal.returns-in-Err-clause-writes
returns-in-Err-clause-writes g c = full_writes c.in-Err.error _ c.full_fault.ensures _ _ _ c.in-Err.ensures.writes

pub returns-in-Err-apply-clause-corrupt : goal.returns-in-Err-apply-clause-corrupt
returns-in-Err-apply-clause-corrupt g c = λ told config s lists of.
    compact_is_outside c.in-Err-apply.error _ c.compact_fault.ensures (c.in-Err-apply.ensures.errors told s lists
    (compact_waits c.args.self c.requires.shaped _ _ (c.in-Ok.ensures.names told) s of.compact))

pub returns-in-Err-apply-clause-own : goal.returns-in-Err-apply-clause-own
returns-in-Err-apply-clause-own g c = compact_is_own c.in-Err-apply.error _ c.compact_fault.ensures

pub returns-in-Err-apply-clause-names : goal.returns-in-Err-apply-clause-names
returns-in-Err-apply-clause-names g c = λ told.
    both_called c.args.self c.requires.shaped _ _ _ (c.in-Ok.ensures.names told) (c.in-Err-apply.ensures.names told)

pub returns-in-Err-apply-clause-writes : goal.returns-in-Err-apply-clause-writes
returns-in-Err-apply-clause-writes g c = writes_fail _ _ _ _ _ _ _ c.in-Ok.ensures.writes
    (compact_writes c.in-Err-apply.error _ c.compact_fault.ensures _ _ _ c.in-Err-apply.ensures.writes)

pub returns-in-Ok-check_same-clause-goes_on : goal.returns-in-Ok-check_same-clause-goes_on
returns-in-Ok-check_same-clause-goes_on g c =
    let full = c.in-Ok.ensures in
    let compact = c.in-Ok-apply.ensures in
    let sound = c.requires.shaped.sound in
    on_changed c.args.self (record { full = c.in-Ok.full; compact = c.in-Ok-apply.compact })
    (record { names = full.same_names; under = full.under; sound = full.sound sound.full })
    (record { names = compact.same_names; under = compact.under; sound = compact.sound sound.compact }) full.limit
    compact.limit full.numbers compact.numbers

pub returns-in-Ok-check_same-clause-shaped : goal.returns-in-Ok-check_same-clause-shaped
returns-in-Ok-check_same-clause-shaped g c =
    let shaped = c.requires.shaped in
    shaped_on c.args.self _ shaped (returns-in-Ok-check_same-clause-goes_on g c)
    (subst (IsShaped full_kind) (sym c.in-Ok.ensures.numbers) shaped.full)
    (subst (IsShaped compact_kind) (sym c.in-Ok-apply.ensures.numbers) shaped.compact)
    (sym c.commitment.ensures ∙ c.in-Ok-check_same.ensures.same ∙ c.commitment-2.ensures)

pub returns-in-Ok-check_same-clause-ok : goal.returns-in-Ok-check_same-clause-ok
returns-in-Ok-check_same-clause-ok g c = λ told config s lists of.
    let full = c.in-Ok.ensures in
    let compact = c.in-Ok-apply.ensures in
    called_twins config _ _ _ c.args.self _ s (apply s c.args.b (batch_at s c.args.b)).1 c.requires.shaped
    (returns-in-Ok-check_same-clause-goes_on g c) (full.names told) (compact.names told) of
    (next_good config s (command.Apply c.args.b) of.good) (full.state told s lists of.full)
    (compact.state told s lists)

pub returns-in-Ok-check_same-clause-names : goal.returns-in-Ok-check_same-clause-names
returns-in-Ok-check_same-clause-names g c = λ told.
    both_called c.args.self c.requires.shaped _ _ _ (c.in-Ok.ensures.names told) (c.in-Ok-apply.ensures.names told)

pub returns-in-Ok-check_same-clause-writes : goal.returns-in-Ok-check_same-clause-writes
returns-in-Ok-check_same-clause-writes g c =
    writes_done _ _ _ _ _ _ _ _ c.in-Ok.ensures.writes c.in-Ok-apply.ensures.writes

pub returns-in-Err-check_same-clause-corrupt : goal.returns-in-Err-check_same-clause-corrupt
returns-in-Err-check_same-clause-corrupt g c = λ told config s lists of is.
    let full = c.in-Ok.ensures in
    let compact = c.in-Ok-apply.ensures in
    let next = (apply s c.args.b (batch_at s c.args.b)).1 in
    let sound = c.requires.shaped.sound in
    let on = on_changed c.args.self (record { full = c.in-Ok.full; compact = c.in-Ok-apply.compact })
    (record { names = full.same_names; under = full.under; sound = full.sound sound.full })
    (record { names = compact.same_names; under = compact.under; sound = compact.sound sound.compact }) full.limit
    compact.limit full.numbers compact.numbers in
    let twins = called_twins config _ _ _ c.args.self _ s next c.requires.shaped on (full.names told)
    (compact.names told) of (next_good config s (command.Apply c.args.b) of.good) (full.state told s lists of.full)
    (compact.state told s lists) in
    unlike_same _ _ c.in-Err-check_same.fault c.in-Err-check_same.ensures.unlike
    (c.commitment.ensures ∙ states_equal config _ _ next twins ∙ sym c.commitment-2.ensures)

pub returns-in-Err-check_same-clause-own : goal.returns-in-Err-check_same-clause-own
returns-in-Err-check_same-clause-own g c =
    (unlike_told _ _ c.in-Err-check_same.fault c.in-Err-check_same.ensures.unlike).own

pub returns-in-Err-check_same-clause-names : goal.returns-in-Err-check_same-clause-names
returns-in-Err-check_same-clause-names g c = λ told.
    both_called c.args.self c.requires.shaped _ _ _ (c.in-Ok.ensures.names told) (c.in-Ok-apply.ensures.names told)

pub returns-in-Err-check_same-clause-writes : goal.returns-in-Err-check_same-clause-writes
returns-in-Err-check_same-clause-writes g c = writes_refused _ _ _ _ _ _ _ c.in-Err-check_same.fault
    (unlike_told _ _ c.in-Err-check_same.fault c.in-Err-check_same.ensures.unlike).other c.in-Ok.ensures.writes
    c.in-Ok-apply.ensures.writes

pub returns-in-Err-clause-images : goal.returns-in-Err-clause-images
returns-in-Err-clause-images g c = λ told config s lists of.
    let full = c.in-Err.ensures in
    let good = of.good.good.log in
    apply_stops config c.args.self c.requires.shaped of.of s (apply s c.args.b (batch_at s c.args.b)).1 _ _
    (g.met.V.Volume.contents_left c.args.volume.now told) (full.names told)
    (λ image. applied_longer s good c.args.self.compact.db image c.args.b) (full.images told s lists good of.full) _

pub returns-in-Err-apply-clause-images : goal.returns-in-Err-apply-clause-images
returns-in-Err-apply-clause-images g c = λ told config s lists of.
    let full = c.in-Ok.ensures in
    let compact = c.in-Err-apply.ensures in
    let good = of.good.good.log in
    apply_goes config c.args.self c.requires.shaped of.of s (apply s c.args.b (batch_at s c.args.b)).1 _ _
    (g.met.V.Volume.contents_left c.args.volume.now told) (full.names told)
    (λ image. applied_longer s good c.args.self.compact.db image c.args.b) (full.images told s lists good of.full) _ _
    (compact.names told) (compact.images told s lists good
    (compact_waits c.args.self c.requires.shaped _ _ (full.names told) s of.compact))

pub returns-in-Ok-check_same-clause-images : goal.returns-in-Ok-check_same-clause-images
returns-in-Ok-check_same-clause-images g c = λ told config s lists of.
    let full = c.in-Ok.ensures in
    let compact = c.in-Ok-apply.ensures in
    let good = of.good.good.log in
    apply_goes config c.args.self c.requires.shaped of.of s (apply s c.args.b (batch_at s c.args.b)).1 _ _
    (g.met.V.Volume.contents_left c.args.volume.now told) (full.names told)
    (λ image. applied_longer s good c.args.self.compact.db image c.args.b) (full.images told s lists good of.full) _ _
    (compact.names told) (compact.images told s lists good
    (compact_waits c.args.self c.requires.shaped _ _ (full.names told) s of.compact))

pub returns-in-Err-check_same-clause-images : goal.returns-in-Err-check_same-clause-images
returns-in-Err-check_same-clause-images g c = λ told config s lists of.
    let full = c.in-Ok.ensures in
    let compact = c.in-Ok-apply.ensures in
    let good = of.good.good.log in
    apply_goes config c.args.self c.requires.shaped of.of s (apply s c.args.b (batch_at s c.args.b)).1 _ _
    (g.met.V.Volume.contents_left c.args.volume.now told) (full.names told)
    (λ image. applied_longer s good c.args.self.compact.db image c.args.b) (full.images told s lists good of.full) _ _
    (compact.names told) (compact.images told s lists good
    (compact_waits c.args.self c.requires.shaped _ _ (full.names told) s of.compact))
