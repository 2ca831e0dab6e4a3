use Rattle.std.proofs.Common.{◌≡◌, ◌∙◌, ap, inl, inr, subst, sym}
use Rattle.std.specs.Prelude.{List}
use Rattle.std.specs.Io.KnownBytes.{Appends}
use Rattle.command_text.specs.declared.command.Command.{Command}
use Rattle.command_text.specs.declared.command.Reply.{Reply}
use Rattle.volume_base.specs.Moments.{present}
use Rattle.list_machine.specs.Config.{standard_config}
use Rattle.list_machine.specs.Generator.{generated, summary_of}
use Rattle.list_machine.specs.Starts.{opened_from}
use Rattle.list_machine.specs.Trace.{HasNoClash, fresh_state, trace}
use Rattle.twin_run.specs.Outcome.{AreToRun}
use Rattle.twin_run.specs.declared.words.Task.{Task}
use Rattle.twin_run.specs.declared.words.Task.TheVariants.{Generate}
use Rattle.twin_run.proofs.Endings.{early_reads, never_corrupt, never_short, not_early, valid_run, valid_task}
use Rattle.twin_run.proofs.GeneratedRuns.{of_fresh, summed_up}
use Rattle.twin_run.proofs.RunLemmas.{not_risen}
use Rattle.twin_run.proofs.WordForms.{few_rounds, one_task}
use Rattle.twin_run.proofs.main_call.twins_main.Goals as goal

pub commands_of-requires : goal.commands_of-requires
commands_of-requires g c = λ number count. few_rounds _ c.in-Some.task number count c.in-Some.ensures

pub returns-in_default-clause-generates : goal.returns-in_default-clause-generates
returns-in_default-clause-generates g c = λ number count said. absurd (c.in_default.ensures _ said)

pub returns-in_default-clause-valid : goal.returns-in_default-clause-valid
returns-in_default-clause-valid g c = λ commands valid. absurd (c.in_default.ensures valid.task valid.said)

pub returns-in_default-clause-fresh : goal.returns-in_default-clause-fresh
returns-in_default-clause-fresh g c = λ number count said. absurd (c.in_default.ensures (Generate number count) said)

pub returns-in_default-clause-summed : goal.returns-in_default-clause-summed
returns-in_default-clause-summed g c = λ number count said. absurd (c.in_default.ensures (Generate number count) said)

-- ---- where the commands are run

pub returns-in-Ok-clause-words : goal.returns-in-Ok-clause-words
returns-in-Ok-clause-words g c =
    let run = c.run_and_write.ensures.run in
    (λ e. absurd (rw e at run), λ none. absurd (none c.in-Some.task c.in-Some.ensures))

pub returns-in-Ok-clause-unread : goal.returns-in-Ok-clause-unread
returns-in-Ok-clause-unread g c = λ e. let run = c.run_and_write.ensures.run in absurd (rw e at run)

pub returns-in-Ok-clause-generates : goal.returns-in-Ok-clause-generates
returns-in-Ok-clause-generates g c = λ number count said.
    c.in-Ok.ensures.unread number count (one_task _ c.in-Some.task (Generate number count) c.in-Some.ensures said)

pub returns-in-Ok-clause-early : goal.returns-in-Ok-clause-early
returns-in-Ok-clause-early g c = λ early.
    absurd (not_early _ _ _ _ _ _ _ _ _ c.run_and_write.result c.run_and_write.ensures.run early)

pub returns-in-Ok-clause-reads : goal.returns-in-Ok-clause-reads
returns-in-Ok-clause-reads g c = λ early.
    absurd (not_early _ _ _ _ _ _ _ _ _ c.run_and_write.result c.run_and_write.ensures.run early)

pub returns-in-Ok-clause-bad_line : goal.returns-in-Ok-clause-bad_line
returns-in-Ok-clause-bad_line g c = λ n e. let run = c.run_and_write.ensures.run in absurd (rw e at run)

pub returns-in-Ok-clause-read_fault : goal.returns-in-Ok-clause-read_fault
returns-in-Ok-clause-read_fault g c = λ e. let run = c.run_and_write.ensures.run in absurd (rw e at run)

pub returns-in-Ok-clause-too_long : goal.returns-in-Ok-clause-too_long
returns-in-Ok-clause-too_long g c = λ e. let run = c.run_and_write.ensures.run in absurd (rw e at run)

pub returns-in-Ok-clause-done : goal.returns-in-Ok-clause-done
returns-in-Ok-clause-done g c = λ e.
    let run = rw e at c.run_and_write.ensures.run in record {
      task = c.in-Some.task;
      commands = c.in-Ok.commands.items;
      asked = record { said = c.in-Some.ensures; runs = c.in-Ok.ensures.runs };
      said = run.0;
      ran = rw c.deref.ensures.value at run.1;
      wrote = run.2;
    }

pub returns-in-Ok-clause-flushed : goal.returns-in-Ok-clause-flushed
returns-in-Ok-clause-flushed g c = c.run_and_write.ensures.flushed

pub returns-in-Ok-clause-write_fault : goal.returns-in-Ok-clause-write_fault
returns-in-Ok-clause-write_fault g c = λ e. let run = rw e at c.run_and_write.ensures.run in run.0

pub returns-in-Ok-clause-cut_off : goal.returns-in-Ok-clause-cut_off
returns-in-Ok-clause-cut_off g c = λ e.
    let run = rw e at c.run_and_write.ensures.run in record {
      task = c.in-Some.task;
      commands = c.in-Ok.commands.items;
      asked = record { said = c.in-Some.ensures; runs = c.in-Ok.ensures.runs };
      said = run.1.0;
      ran = rw c.deref.ensures.value at run.1.1;
      wrote = run.1.2;
    }

pub returns-in-Ok-clause-no_fault : goal.returns-in-Ok-clause-no_fault
returns-in-Ok-clause-no_fault g c = c.run_and_write.ensures.no_fault

pub returns-in-Ok-clause-volume : goal.returns-in-Ok-clause-volume
returns-in-Ok-clause-volume g c = λ e. let run = rw e at c.run_and_write.ensures.run in run.0

pub returns-in-Ok-clause-stopped : goal.returns-in-Ok-clause-stopped
returns-in-Ok-clause-stopped g c = λ e. elim e [
  | inl v ↦
      let run = rw v at c.run_and_write.ensures.run in record {
        task = c.in-Some.task;
        commands = c.in-Ok.commands.items;
        asked = record { said = c.in-Some.ensures; runs = c.in-Ok.ensures.runs };
        said = run.1.0;
        began = rw c.deref.ensures.value at run.1.1;
        wrote = run.1.2;
        fault = λ at. absurd (never_corrupt _ v at);
      }
  | inr v ↦
      let run = rw v at c.run_and_write.ensures.run in record {
        task = c.in-Some.task;
        commands = c.in-Ok.commands.items;
        asked = record { said = c.in-Some.ensures; runs = c.in-Ok.ensures.runs };
        said = run.1.0;
        began = rw c.deref.ensures.value at run.1.1;
        wrote = run.1.2;
        fault = λ at. rw c.deref.ensures.value at run.0;
      }
]

pub returns-in-Ok-clause-memory : goal.returns-in-Ok-clause-memory
returns-in-Ok-clause-memory g c = λ e.
    let run = rw e at c.run_and_write.ensures.run in
    inr (record {
      task = c.in-Some.task;
      commands = c.in-Ok.commands.items;
      asked = record { said = c.in-Some.ensures; runs = c.in-Ok.ensures.runs };
      said = run.0;
      began = rw c.deref.ensures.value at run.1;
      wrote = run.2;
      fault = λ at. absurd (never_short _ e at);
    })

pub returns-in-Ok-clause-complete : goal.returns-in-Ok-clause-complete
returns-in-Ok-clause-complete g c = λ steady low e.
    let run = rw e at c.run_and_write.ensures.run in
    not_risen _ _ (c.run_and_write.ensures.steady steady).faults low run.0

pub returns-in-Ok-clause-valid : goal.returns-in-Ok-clause-valid
returns-in-Ok-clause-valid g c = λ commands valid told s start clear source sink volume.
    let task = one_task _ valid.task c.in-Some.task valid.said c.in-Some.ensures in
    let to_run = subst (λ (t : Task). AreToRun t _ commands) task valid.to_run in
    let same = c.in-Ok.ensures.only commands to_run in
    let image = present (g.V.Volume.state c.args.volume.now) in
    let here = subst (λ (cs : List Command). HasNoClash standard_config (opened_from standard_config s image) cs)
    (sym same) clear in
    valid_run _ _ _ _ _ _ _ _ _ c.run_and_write.result c.run_and_write.ensures.run
    (λ e. let run = rw e at c.run_and_write.ensures.run in (rw c.deref.ensures.value at run.0) told s start here) sink
    volume

pub returns-in-Ok-clause-fresh : goal.returns-in-Ok-clause-fresh
returns-in-Ok-clause-fresh g c = λ number count said told empty clear sink volume.
    let task = one_task _ c.in-Some.task (Generate number count) c.in-Some.ensures said in
    let cs = c.in-Ok.commands.items in
    let same : cs ≡ generated number count = (rw task at c.in-Ok.ensures.runs).1 in
    let image = present (g.V.Volume.state c.args.volume.now) in
    let here = subst (λ (cs : List Command). HasNoClash standard_config fresh_state cs) (sym same) clear in
    valid_run _ _ _ _ _ _ _ _ _ c.run_and_write.result c.run_and_write.ensures.run
    (λ e. let run = rw e at c.run_and_write.ensures.run in
    of_fresh image cs (λ now. ⊥) ((rw c.deref.ensures.value at run.0) told) empty here)
    sink volume

pub returns-in-Ok-clause-summed : goal.returns-in-Ok-clause-summed
returns-in-Ok-clause-summed g c = λ number count said told empty clear e.
    let task = one_task _ c.in-Some.task (Generate number count) c.in-Some.ensures said in
    let run = rw e at c.run_and_write.ensures.run in
    let ran = rw c.deref.ensures.value at run.1 in
    let cs = c.in-Ok.commands.items in
    let same : cs ≡ generated number count = (rw task at c.in-Ok.ensures.runs).1 in
    let here = subst (λ (cs : List Command). HasNoClash standard_config fresh_state cs) (sym same) clear in
    let replies = of_fresh (present (g.V.Volume.state c.args.volume.now)) cs (λ now. run.0 ≡ trace standard_config now cs)
    (ran.replies.told told) empty here in
    let is = replies ∙ ap (λ (cs : List Command). trace standard_config fresh_state cs) same in
    let wrote = rw task at run.2 in
    summed_up number count _ _ (few_rounds _ _ number count c.in-Some.ensures task)
    (subst (λ (rs : List Reply). Appends (g.O.Sink.written c.args.output.now) (g.O.Sink.written c.run_and_write.new.output) (summary_of count rs)) is wrote)

-- ---- where there are none

pub returns-in-Err-clause-words : goal.returns-in-Err-clause-words
returns-in-Err-clause-words g c =
    let early = c.in-Err.ensures.early in
    (λ e. absurd (rw e at early), λ none. absurd (none c.in-Some.task c.in-Some.ensures))

pub returns-in-Err-clause-generates : goal.returns-in-Err-clause-generates
returns-in-Err-clause-generates g c = λ number count said.
    c.in-Err.ensures.unread number count (one_task _ c.in-Some.task (Generate number count) c.in-Some.ensures said)

pub returns-in-Err-clause-reads : goal.returns-in-Err-clause-reads
returns-in-Err-clause-reads g c = λ early some.
    early_reads _ c.in-Some.task c.in-Err.status c.in-Some.ensures c.in-Err.ensures.memory early

pub returns-in-Err-clause-valid : goal.returns-in-Err-clause-valid
returns-in-Err-clause-valid g c = λ commands valid told s start clear source sink volume.
    let task = one_task _ valid.task c.in-Some.task valid.said c.in-Some.ensures in
    let to_run = subst (λ (t : Task). AreToRun t _ commands) task valid.to_run in
    valid_task _ c.in-Some.task _ _ _ _ c.in-Err.status commands c.in-Some.ensures c.in-Err.ensures.early
    c.in-Err.ensures.memory to_run
    source

pub returns-in-Err-clause-fresh : goal.returns-in-Err-clause-fresh
returns-in-Err-clause-fresh g c = λ number count said told empty clear sink volume.
    inr (c.in-Err.ensures.memory number count (one_task _ c.in-Some.task (Generate number count) c.in-Some.ensures said))

pub returns-in-Err-clause-summed : goal.returns-in-Err-clause-summed
returns-in-Err-clause-summed g c = λ number count said told empty clear e.
    let early = c.in-Err.ensures.early in absurd (rw e at early)
