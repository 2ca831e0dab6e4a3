use Rattle.std.proofs.Common.{◌≡◌, ◌+◌, [], List, Err, drop, take, length, refl, sym, ◌∙◌, ap, subst, arith}
use Rattle.command_text.specs.declared.command.Reply.{Reply}
use Rattle.volume_base.specs.Moments.{present}
use Rattle.volume_base.proofs.CallLemmas.{names_call_joins}
use Rattle.volume_base.proofs.JoinLemmas.{changes_joins, went_of, went_joins}
use Rattle.list_machine.specs.Starts.{opened_from, twin_names}
use Rattle.list_machine.specs.Step.{step}
use Rattle.list_machine.specs.Told.{StatesAreTold}
use Rattle.list_machine.specs.Trace.{trace, state_after, IsBegun, TellOneRoot}
use Rattle.list_machine.proofs.RunGood.{way_begins, way_told, way_next}
use Rattle.twin_databases.proofs.WentLemmas.{changes_err}
use Rattle.twin_run.specs.declared.ending.Fault.TheVariants as fault
use Rattle.twin_run.proofs.HeldLog.{state_left}
use Rattle.twin_run.proofs.Lasting.{all_lasting, lasting_after, lasts_all, lasts_next}
use Rattle.twin_run.proofs.RunLemmas.{none_begun, first_pushed, one_more, told_first, told_more, told_begun, told_all, none_tell, more_tell, state_next, state_last}
use Rattle.twin_run.proofs.RunMoments.{opened_so, opening_failed, passed_all, passed_some, stands_here, step_failed, stepped}
use Rattle.twin_run.proofs.run.answer_all.Goals as goal

pub returns-in-Err-clause-err : goal.returns-in-Err-clause-err
returns-in-Err-clause-err g c = λ told s start clear. none_begun _ _ _ _ c.requires

pub returns-in-Err-clause-equal : goal.returns-in-Err-clause-equal
returns-in-Err-clause-equal g c = none_tell _ c.requires

pub returns-in-Err-clause-corrupt : goal.returns-in-Err-clause-corrupt
returns-in-Err-clause-corrupt g c = λ told s start clear. c.in-Err.ensures.corrupt told s start

pub returns-in-Err-clause-images_so_far : goal.returns-in-Err-clause-images_so_far
returns-in-Err-clause-images_so_far g c = λ told s begins.
    let config = c.args.config.now in
    let old = g.V.Volume.state c.args.volume.now in
    let steps = c.in-Err.ensures.images told s begins.start begins.stands in
    opening_failed config s (opened_from config s (present old)) c.args.commands.now old
    (g.V.Volume.state c.open.new.volume) _ (ap length c.requires) steps.past steps.err

pub returns-in_default-clause-err : goal.returns-in_default-clause-err
returns-in_default-clause-err g c = λ told s start clear.
    none_begun _ _ _ _ (c.in_default.ensures.err ∙ c.requires)

pub returns-in_default-clause-equal : goal.returns-in_default-clause-equal
returns-in_default-clause-equal g c = none_tell _ (c.in_default.ensures.err ∙ c.requires)

pub returns-in_default-clause-images_so_far : goal.returns-in_default-clause-images_so_far
returns-in_default-clause-images_so_far g c = λ told s begins.
    let config = c.args.config.now in
    let commands = c.args.commands.now in
    let old = g.V.Volume.state c.args.volume.now in
    let new = g.V.Volume.state c.open.new.volume in
    let first = opened_from config s (present old) in
    let steps = c.in-Ok.ensures.images told s begins.start begins.stands in
    passed_some config s first commands 0 first old new (opened_so config s first commands old new steps.ok) _
    (ap length (c.in_default.ensures.err ∙ c.requires))

pub loop-command-init : goal.loop-command-init
loop-command-init g c =
    let config = c.args.config.now in
    let commands = c.args.commands.now in
    let opening = c.in-Ok.opened.1 in
    let done = c.in-Ok.ensures in
    let first = first_pushed _ c.push.new.self opening c.requires c.in-Ok-push.ensures.ok in record {
      shaped = done.shaped;
      of = done.of;
      told = λ told s start clear.
          let now = opened_from config s (present (g.V.Volume.state c.args.volume.now)) in
          let one = done.opened told s start in (
            now,
            one.1,
            way_begins config now commands one.1.good refl,
            told_first config now commands opening c.push.new.self first one.0,
            refl,
          );
      equal = more_tell [] _ opening first done.equal tt;
      count = ap length first;
      taken = done.taken;
      went = went_of _ _ _ _ _ done.changes;
      names = done.names;
      within = omega arith;
      durable = λ told. all_lasting config c.in-Ok.opened.0 _ done.of (done.durable told);
      moments = λ told s begins.
          let old = g.V.Volume.state c.args.volume.now in
          opened_so config s (opened_from config s (present old)) commands old (g.V.Volume.state c.open.new.volume)
          (done.images told s begins.start begins.stands).ok;
    }

pub loop-command-preserved : goal.loop-command-preserved
loop-command-preserved g c =
    let config = c.args.config.now in
    let commands = c.args.commands.now in
    let old = present (g.V.Volume.state c.args.volume.now) in
    let i = c.loop-command.command-index in
    let inv = c.loop-command.invariant in
    let command = c.command-item.result in
    let replies = c.loop-command.replies in
    let r = c.in-Ok-step.step.1 in
    let done = c.in-Ok-step.ensures in
    let lt = c.loop-command-test.true in
    let is = sym c.command-item.is in
    let rs = c.push-in-loop-command.new.self in
    let more = c.in-Ok-push-2.ensures.ok in record {
      shaped = done.shaped;
      of = done.of config inv.of;
      told = λ told s start clear.
          let first = opened_from config s old in
          let all = trace config first commands in
          let t = inv.told told s start clear in
          let here = t.0 in
          let next = (step config here command).1 in
          let law = subst StatesAreTold c.value_limit.ensures.value c.states_are_told.ensures in
          let lists = way_told config first commands here (drop i commands) law clear t.2 in
          let one = done.ok told config here lists t.1 in (
            next,
            one.1,
            way_next config first commands here i command lt is t.2,
            told_more config here commands replies i all rs command r lt is one.0 more t.3,
            state_next config here (state_after config first commands) commands i t.4 command lt is,
          );
      equal = more_tell replies rs r more done.equal inv.equal;
      count = one_more replies rs r (i + 1) more inv.count;
      taken = omega (arith, done.taken, inv.taken);
      went = went_joins _ _ _ _ inv.went (went_of _ _ _ _ _ done.changes);
      names = λ told. names_call_joins (twin_names config) _ _ _ (inv.names told) (done.names told config inv.of);
      within = omega (arith, lt);
      durable = λ told. lasts_next config _ commands i command is lt
          (lasting_after config g.V.Volume.tells told c.in-Ok-step.step.0 _ _ (done.of config inv.of)
          command (take i commands) (inv.durable told) done.quiet (done.durable told));
      moments = λ told s begins.
          let first = opened_from config s old in
          let t = inv.told told s begins.start begins.clash in
          let run = inv.moments told s begins in
          let before = g.V.Volume.state c.args.volume.now in
          let now = g.V.Volume.state c.loop-command.volume in
          let law = subst StatesAreTold c.value_limit.ensures.value c.states_are_told.ensures in
          let lists = way_told config first commands t.0 (drop i commands) law begins.clash t.2 in
          let steps = done.images told config t.0 lists t.1 (stands_here config s first commands i t.0 before now run) in
          stepped config s first commands i t.0 before now run (g.V.Volume.state c.step.new.volume) steps.past command lt
          is steps.ok;
    }

pub returns-in-Err-step-clause-err : goal.returns-in-Err-step-clause-err
returns-in-Err-step-clause-err g c = λ told s start clear.
    let config = c.args.config.now in
    let first = opened_from config s (present (g.V.Volume.state c.args.volume.now)) in
    let t = c.loop-command.invariant.told told s start clear in
    told_begun config t.0 c.args.commands.now c.loop-command.replies c.loop-command.command-index
    (trace config first c.args.commands.now) c.loop-command-test.true t.3

pub returns-in-Err-step-clause-corrupt : goal.returns-in-Err-step-clause-corrupt
returns-in-Err-step-clause-corrupt g c = λ told s start clear.
    let config = c.args.config.now in
    let commands = c.args.commands.now in
    let first = opened_from config s (present (g.V.Volume.state c.args.volume.now)) in
    let t = c.loop-command.invariant.told told s start clear in
    let law = subst StatesAreTold c.value_limit.ensures.value c.states_are_told.ensures in
    c.in-Err-step.ensures.corrupt told config t.0
    (way_told config first commands t.0 (drop c.loop-command.command-index commands) law clear t.2) t.1

pub returns-in-Err-step-clause-names : goal.returns-in-Err-step-clause-names
returns-in-Err-step-clause-names g c = λ told.
    let inv = c.loop-command.invariant in
    let config = c.args.config.now in
    names_call_joins (twin_names config) _ _ _ (inv.names told) (c.in-Err-step.ensures.names told config inv.of)

pub returns-in-Err-step-clause-changes : goal.returns-in-Err-step-clause-changes
returns-in-Err-step-clause-changes g c =
    changes_joins g.V.Volume.tells fault.Volume fault.Volume (g.V.Volume.state c.args.volume.now)
    (g.V.Volume.state c.loop-command.volume) (g.V.Volume.state c.step.new.volume) (Err c.in-Err-step.fault)
    (Err c.in-Err-step.fault) c.loop-command.invariant.went c.in-Err-step.ensures.changes
    (λ is. let same : c.in-Err-step.fault ≡ fault.Volume = cc in ap Err same) tt

pub returns-in-Err-step-clause-images_so_far : goal.returns-in-Err-step-clause-images_so_far
returns-in-Err-step-clause-images_so_far g c = λ told s begins.
    let config = c.args.config.now in
    let commands = c.args.commands.now in
    let i = c.loop-command.command-index in
    let old = g.V.Volume.state c.args.volume.now in
    let now = g.V.Volume.state c.loop-command.volume in
    let first = opened_from config s (present old) in
    let t = c.loop-command.invariant.told told s begins.start begins.clash in
    let run = c.loop-command.invariant.moments told s begins in
    let law = subst StatesAreTold c.value_limit.ensures.value c.states_are_told.ensures in
    let lists = way_told config first commands t.0 (drop i commands) law begins.clash t.2 in
    let steps = c.in-Err-step.ensures.images told config t.0 lists t.1
    (stands_here config s first commands i t.0 old now run) in
    step_failed config s first commands i t.0 old now (g.V.Volume.state c.step.new.volume) run steps.past
    c.command-item.result c.loop-command-test.true (sym c.command-item.is) _ c.loop-command.invariant.count steps.err

pub returns-in_default-push-clause-err : goal.returns-in_default-push-clause-err
returns-in_default-push-clause-err g c = λ told s start clear.
    let config = c.args.config.now in
    let commands = c.args.commands.now in
    let first = opened_from config s (present (g.V.Volume.state c.args.volume.now)) in
    let all = trace config first commands in
    let t = c.loop-command.invariant.told told s start clear in
    subst (λ (rs : List Reply). IsBegun rs all) (sym c.in_default-push.ensures.err)
    (told_begun config t.0 commands c.loop-command.replies c.loop-command.command-index all
    c.loop-command-test.true t.3)

pub returns-in_default-push-clause-equal : goal.returns-in_default-push-clause-equal
returns-in_default-push-clause-equal g c =
    subst TellOneRoot (sym c.in_default-push.ensures.err) c.loop-command.invariant.equal

pub returns-in_default-push-clause-images_so_far : goal.returns-in_default-push-clause-images_so_far
returns-in_default-push-clause-images_so_far g c = λ told s begins.
    let config = c.args.config.now in
    let commands = c.args.commands.now in
    let i = c.loop-command.command-index in
    let command = c.command-item.result in
    let old = g.V.Volume.state c.args.volume.now in
    let now = g.V.Volume.state c.loop-command.volume in
    let new = g.V.Volume.state c.step.new.volume in
    let first = opened_from config s (present old) in
    let t = c.loop-command.invariant.told told s begins.start begins.clash in
    let run = c.loop-command.invariant.moments told s begins in
    let law = subst StatesAreTold c.value_limit.ensures.value c.states_are_told.ensures in
    let lists = way_told config first commands t.0 (drop i commands) law begins.clash t.2 in
    let steps = c.in-Ok-step.ensures.images told config t.0 lists t.1
    (stands_here config s first commands i t.0 old now run) in
    passed_some config s first commands (i + 1) (step config t.0 command).1 old new
    (stepped config s first commands i t.0 old now run new steps.past command c.loop-command-test.true
    (sym c.command-item.is) steps.ok) _
    (ap length c.in_default-push.ensures.err ∙ c.loop-command.invariant.count)

pub returns-in_default-push-clause-names : goal.returns-in_default-push-clause-names
returns-in_default-push-clause-names g c = λ told.
    let inv = c.loop-command.invariant in
    let config = c.args.config.now in
    names_call_joins (twin_names config) _ _ _ (inv.names told) (c.in-Ok-step.ensures.names told config inv.of)

pub returns-in_default-push-clause-changes : goal.returns-in_default-push-clause-changes
returns-in_default-push-clause-changes g c =
    changes_err g.V.Volume.tells fault.Volume fault.Memory (g.V.Volume.state c.args.volume.now)
    (g.V.Volume.state c.step.new.volume) (λ is. cc)
    (went_joins _ _ _ _ c.loop-command.invariant.went (went_of _ _ _ _ _ c.in-Ok-step.ensures.changes))

pub returns-clause-ok : goal.returns-clause-ok
returns-clause-ok g c = λ told s start clear.
    let config = c.args.config.now in
    let first = opened_from config s (present (g.V.Volume.state c.args.volume.now)) in
    let t = c.loop-command.invariant.told told s start clear in
    told_all config t.0 c.args.commands.now c.loop-command.replies c.loop-command.command-index
    (trace config first c.args.commands.now) c.loop-command-test.false t.3

pub returns-clause-durable : goal.returns-clause-durable
returns-clause-durable g c = λ told.
    lasts_all c.args.config.now _ c.args.commands.now c.loop-command.command-index c.loop-command-test.false
    (c.loop-command.invariant.durable told)

pub returns-clause-images : goal.returns-clause-images
returns-clause-images g c = λ told s begins.
    let config = c.args.config.now in
    let old = g.V.Volume.state c.args.volume.now in
    passed_all config s (opened_from config s (present old)) c.args.commands.now c.loop-command.command-index
    (c.loop-command.invariant.told told s begins.start begins.clash).0 old (g.V.Volume.state c.loop-command.volume)
    (c.loop-command.invariant.moments told s begins) c.loop-command-test.false

pub returns-clause-left : goal.returns-clause-left
returns-clause-left g c = λ told s start clear.
    let config = c.args.config.now in
    let commands = c.args.commands.now in
    let first = opened_from config s (present (g.V.Volume.state c.args.volume.now)) in
    let last = state_after config first commands in
    let t = c.loop-command.invariant.told told s start clear in
    state_left config (present (g.V.Volume.state c.loop-command.volume)) c.loop-command.twins t.0 last t.1
    (state_last config t.0 last commands c.loop-command.command-index t.4 c.loop-command-test.false)
