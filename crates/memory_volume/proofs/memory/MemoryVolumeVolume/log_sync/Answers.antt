use Rattle.std.proofs.Common.{◌≡◌, [], ◌∷◌, ◌++◌, refl, sym, ◌∙◌}
use Rattle.memory_volume.specs.declared.entry.Entry.TheVariants.{OfLog}
use Rattle.memory_volume.specs.declared.entry.LogChange.TheVariants.{Sync}
use Rattle.memory_volume.proofs.CallLemmas.{pushed, call_writes, call_answers}
use Rattle.memory_volume.proofs.StateLemmas.{contents_are, only_one_left, sync_call}
use Rattle.memory_volume.proofs.memory.MemoryVolumeVolume.log_sync.Goals as goal

is_recorded : (c : goal.In_ok-record_change) → c.record_change.new.self.calls.items ≡ c.args.self.now.calls.items ++ OfLog c.args.name.now Sync ∷ []
is_recorded c = pushed c.args.self.now c.start_call.new.self c.record_change.new.self (OfLog c.args.name.now Sync) c.start_call.ensures.calls c.start_call.ensures.reads c.in_ok-start_call.ensures.starts c.in_ok-record_change.ensures.recorded c.record_change.ensures.failing

pub returns-clause-durable : goal.returns-clause-durable
returns-clause-durable c told = λ image left. only_one_left _ _ c.args.name.now Sync (is_recorded c) c.args.self.now.failing c.args.self.now.failing 0 0 _ refl image left ∙ sym (contents_are _ _ c.args.name.now Sync (is_recorded c))

pub returns-clause-call : goal.returns-clause-call
returns-clause-call c = record {
  log = λ told. sync_call _ _ c.args.name.now _ _ _ _ (is_recorded c);
  writes = call_writes c.args.self.now c.start_call.new.self c.record_change.new.self (OfLog c.args.name.now Sync) c.start_call.ensures.calls c.start_call.ensures.reads c.in_ok-start_call.ensures.starts c.in_ok-record_change.ensures.recorded c.record_change.ensures.failing;
}

pub returns-clause-answers : goal.returns-clause-answers
returns-clause-answers c = call_answers c.args.self.now c.start_call.new.self c.record_change.new.self (OfLog c.args.name.now Sync) c.start_call.ensures.calls c.start_call.ensures.reads c.in_ok-start_call.ensures.starts c.in_ok-record_change.ensures.recorded c.record_change.ensures.failing
