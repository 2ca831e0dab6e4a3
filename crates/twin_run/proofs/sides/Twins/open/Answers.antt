use Rattle.std.proofs.Common.{length, Some, refl, sym, ◌∙◌, ap, subst, arith}
use Rattle.command_text.specs.declared.command.Answer.TheVariants as answer
use Rattle.volume_base.specs.Moments.{present}
use Rattle.list_machine.specs.Starts.{opened_from}
use Rattle.list_machine.proofs.OpeningLaws.{opens_well}
use Rattle.twin_databases.specs.CompactKind.{CompactView}
use Rattle.twin_databases.specs.FullKind.{FullView}
use Rattle.twin_databases.specs.Reopening.{FollowsOperations, KeepsOperations}
use Rattle.twin_run.specs.Twins.{reply_of}
use Rattle.twin_run.specs.declared.sides.Twins.{Twins}
use Rattle.twin_run.proofs.BothSides.{opened_twins, opened_of, opened_shaped, opened_durable, made_reply, one_root}
use Rattle.twin_run.proofs.RealignMoments.{takes_ok}
use Rattle.twin_run.proofs.sides.Twins.open.Goals as goal

pub returns-clause-shaped : goal.returns-clause-shaped
returns-clause-shaped g c =
    let opened = c.in-Ok.ensures in
    opened_shaped _ _ _ c.of.ensures.db c.of-2.ensures.db c.args.config.now c.of.ensures.shaped c.of-2.ensures.shaped
    c.of.ensures.taken c.of-2.ensures.taken opened.sound c.names_apart.ensures opened.under opened.equal

pub returns-clause-of : goal.returns-clause-of
returns-clause-of g c =
    let value = c.value_limit-limit.ensures.value in
    opened_of _ _ _ c.of.ensures.db c.of-2.ensures.db c.args.config.now c.in-Ok.ensures.under
    (c.of.ensures.limit ∙ value) (c.of-2.ensures.limit ∙ value)

pub returns-clause-opened : goal.returns-clause-opened
returns-clause-opened g c = λ told s start.
    let config = c.args.config.now in
    let now = opened_from config s (present (g.V.Volume.state c.args.volume.now)) in
    let image = present (g.V.Volume.state c.realign.new.volume) in
    let both = c.in-Ok.ensures.opened told s start in
    let value = c.value_limit-limit.ensures.value in
    let within = c.value_limit-limit.ensures.within in
    let full = c.of.ensures.state image now refl in
    let compact = c.of-2.ensures.state image now refl in
    let twins = opened_twins config image _ now (opens_well config s _ start).good c.names_apart.ensures
    (omega (arith, value, within)) (returns-clause-of g c) (full both.full) (compact both.compact) in (
      c.reply-reply.ensures
          ∙ made_reply config image _ (answer.Opened (length now.ops) now.start, now) c.opened.result
          (c.opened.ensures config image now twins) twins,
      twins,
    )

pub returns-clause-durable : goal.returns-clause-durable
returns-clause-durable g c = λ told.
    let twins : Twins = record { full = c.of.result; compact = c.of-2.result } in
    opened_durable twins c.in-Ok.opened.0 c.in-Ok.opened.1 c.of.ensures.db c.of-2.ensures.db
    (g.V.Volume.state c.realign.new.volume) (c.in-Ok.ensures.durable told)

pub returns-clause-operations : goal.returns-clause-operations
returns-clause-operations g c = λ told.
    let config = c.args.config.now in
    let old = (g.V.Volume.state c.args.volume.now).log config.log in
    let new = (g.V.Volume.state c.realign.new.volume).log config.log in
    subst (λ (db : FullView). KeepsOperations config.value_limit (Some db.state.size) db.state.size old new)
    (sym c.of.ensures.db) (c.in-Ok.ensures.operations told)

pub returns-clause-witnesses : goal.returns-clause-witnesses
returns-clause-witnesses g c = λ told.
    let config = c.args.config.now in
    let old = (g.V.Volume.state c.args.volume.now).log in
    let new = (g.V.Volume.state c.realign.new.volume).log config.witness in
    subst (λ (db : CompactView). FollowsOperations config.value_limit db.tip.witness.size (old config.log)
    (old config.witness) new) (sym c.of-2.ensures.db) (c.in-Ok.ensures.witnesses told)

pub returns-clause-roots : goal.returns-clause-roots
returns-clause-roots g c =
    let twins : Twins = record { full = c.of.result; compact = c.of-2.result } in
    let told = c.reply-reply.ensures in
    told ∙ ap (reply_of twins) (sym (ap (λ r. r.answer) told))

pub returns-clause-equal : goal.returns-clause-equal
returns-clause-equal g c =
    let twins : Twins = record { full = c.of.result; compact = c.of-2.result } in
    let told = c.reply-reply.ensures in
    ap (λ r. r.full_root) told ∙ one_root twins c.opened.result (returns-clause-shaped g c).equal
    ∙ sym (ap (λ r. r.compact_root) told)

pub returns-clause-images : goal.returns-clause-images
returns-clause-images g c told s start each =
    let config = c.args.config.now in
    let old = g.V.Volume.state c.args.volume.now in
    takes_ok config s (opened_from config s (present old)) old (g.V.Volume.state c.realign.new.volume) _ _
    (c.in-Ok.ensures.images told s start each)
