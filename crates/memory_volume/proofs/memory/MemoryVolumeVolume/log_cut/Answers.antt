use Rattle.std.proofs.Common.{◌≡◌, [], ◌∷◌, ◌++◌, ◌∙◌, rules}
use Rattle.volume_base.proofs.StepLemmas.{shrinks_same}
use Rattle.memory_volume.specs.declared.entry.Entry.TheVariants.{OfLog}
use Rattle.memory_volume.specs.declared.entry.LogChange.TheVariants.{Cut}
use Rattle.memory_volume.proofs.CallLemmas.{pushed, call_writes, call_answers}
use Rattle.memory_volume.proofs.StateLemmas.{idle_log_call, contents_are, cut_call}
use Rattle.memory_volume.proofs.memory.MemoryVolumeVolume.log_cut.Goals as goal

pub returns-in_err-start_call-clause-call : goal.returns-in_err-start_call-clause-call
returns-in_err-start_call-clause-call c = record { log = λ told. idle_log_call _ _ _ _ _ _ c.args.name.now _ c.start_call.ensures.calls (shrinks_same _); writes = search rules }

pub returns-in_err-record_change-clause-call : goal.returns-in_err-record_change-clause-call
returns-in_err-record_change-clause-call c = record { log = λ told. idle_log_call _ _ _ _ _ _ c.args.name.now _ (c.in_err-record_change.ensures.recorded.err ∙ c.start_call.ensures.calls) (shrinks_same _); writes = search rules }

is_recorded : (c : goal.In_ok-record_change) → c.record_change.new.self.calls.items ≡ c.args.self.now.calls.items ++ OfLog c.args.name.now (Cut c.args.end) ∷ []
is_recorded c = pushed c.args.self.now c.start_call.new.self c.record_change.new.self (OfLog c.args.name.now (Cut c.args.end)) c.start_call.ensures.calls c.start_call.ensures.reads c.in_ok-start_call.ensures.starts c.in_ok-record_change.ensures.recorded c.record_change.ensures.failing

pub returns-clause-cut : goal.returns-clause-cut
returns-clause-cut c told = contents_are _ _ c.args.name.now (Cut c.args.end) (is_recorded c)

pub returns-clause-call : goal.returns-clause-call
returns-clause-call c = record {
  log = λ told. cut_call _ _ c.args.name.now _ _ _ _ c.args.end (c.requires.low told) (c.requires.high told) (is_recorded c);
  writes = call_writes c.args.self.now c.start_call.new.self c.record_change.new.self (OfLog c.args.name.now (Cut c.args.end)) c.start_call.ensures.calls c.start_call.ensures.reads c.in_ok-start_call.ensures.starts c.in_ok-record_change.ensures.recorded c.record_change.ensures.failing;
}

pub returns-clause-answers : goal.returns-clause-answers
returns-clause-answers c = call_answers c.args.self.now c.start_call.new.self c.record_change.new.self (OfLog c.args.name.now (Cut c.args.end)) c.start_call.ensures.calls c.start_call.ensures.reads c.in_ok-start_call.ensures.starts c.in_ok-record_change.ensures.recorded c.record_change.ensures.failing
