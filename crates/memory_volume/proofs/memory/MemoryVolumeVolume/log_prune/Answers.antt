use Rattle.std.proofs.Common.{◌≡◌, [], ◌∷◌, ◌++◌, ◌∙◌, rules}
use Rattle.memory_volume.specs.declared.entry.Entry.TheVariants.{OfLog}
use Rattle.memory_volume.specs.declared.entry.LogChange.TheVariants.{Prune}
use Rattle.memory_volume.proofs.VersionLemmas.{advances_same}
use Rattle.memory_volume.proofs.CallLemmas.{pushed, call_writes, call_answers}
use Rattle.memory_volume.proofs.StateLemmas.{idle_log_call, contents_are, prune_call}
use Rattle.memory_volume.proofs.memory.MemoryVolumeVolume.log_prune.Goals as goal

pub returns-in_err-start_call-clause-call : goal.returns-in_err-start_call-clause-call
returns-in_err-start_call-clause-call c = record { log = λ told. idle_log_call _ _ _ _ _ _ c.args.name.now _ c.start_call.ensures.calls (advances_same _); writes = search rules }

pub returns-in_err-record_change-clause-call : goal.returns-in_err-record_change-clause-call
returns-in_err-record_change-clause-call c = record { log = λ told. idle_log_call _ _ _ _ _ _ c.args.name.now _ (c.in_err-record_change.ensures.recorded.err ∙ c.start_call.ensures.calls) (advances_same _); writes = search rules }

is_recorded : (c : goal.In_ok-record_change) → c.record_change.new.self.calls.items ≡ c.args.self.now.calls.items ++ OfLog c.args.name.now (Prune c.args.start) ∷ []
is_recorded c = pushed c.args.self.now c.start_call.new.self c.record_change.new.self (OfLog c.args.name.now (Prune c.args.start)) c.start_call.ensures.calls c.start_call.ensures.reads c.in_ok-start_call.ensures.starts c.in_ok-record_change.ensures.recorded c.record_change.ensures.failing

pub returns-clause-pruned : goal.returns-clause-pruned
returns-clause-pruned c told = contents_are _ _ c.args.name.now (Prune c.args.start) (is_recorded c)

pub returns-clause-call : goal.returns-clause-call
returns-clause-call c = record {
  log = λ told. prune_call _ _ c.args.name.now _ _ _ _ c.args.start (c.requires.low told) (c.requires.high told) (is_recorded c);
  writes = call_writes c.args.self.now c.start_call.new.self c.record_change.new.self (OfLog c.args.name.now (Prune c.args.start)) c.start_call.ensures.calls c.start_call.ensures.reads c.in_ok-start_call.ensures.starts c.in_ok-record_change.ensures.recorded c.record_change.ensures.failing;
}

pub returns-clause-answers : goal.returns-clause-answers
returns-clause-answers c = call_answers c.args.self.now c.start_call.new.self c.record_change.new.self (OfLog c.args.name.now (Prune c.args.start)) c.start_call.ensures.calls c.start_call.ensures.reads c.in_ok-start_call.ensures.starts c.in_ok-record_change.ensures.recorded c.record_change.ensures.failing
