use Rattle.std.proofs.Common.{◌≡◌, [], ◌∷◌, ◌++◌, inl, refl, ◌∙◌, rules}
use Rattle.memory_volume.specs.declared.entry.Entry.TheVariants.{OfMap}
use Rattle.memory_volume.proofs.CallLemmas.{pushed, call_writes, call_answers}
use Rattle.memory_volume.proofs.StateLemmas.{idle_map_call, this_map, only_map_left, replace_call}
use Rattle.memory_volume.proofs.memory.MemoryVolumeVolume.map_replace.Goals as goal

pub returns-in_err-start_call-clause-call : goal.returns-in_err-start_call-clause-call
returns-in_err-start_call-clause-call c = record { map = λ told. idle_map_call _ _ _ _ _ _ c.args.name.now _ c.start_call.ensures.calls (λ m. inl refl); writes = search rules }

pub returns-in_err-record_replace-clause-call : goal.returns-in_err-record_replace-clause-call
returns-in_err-record_replace-clause-call c = record { map = λ told. idle_map_call _ _ _ _ _ _ c.args.name.now _ (c.in_err-record_replace.ensures.recorded.err ∙ c.start_call.ensures.calls) (λ m. inl refl); writes = search rules }

is_recorded : (c : goal.In_ok-record_replace) → c.record_replace.new.self.calls.items ≡ c.args.self.now.calls.items ++ OfMap c.args.name.now c.args.map.now ∷ []
is_recorded c = pushed c.args.self.now c.start_call.new.self c.record_replace.new.self (OfMap c.args.name.now c.args.map.now) c.start_call.ensures.calls c.start_call.ensures.reads c.in_ok-start_call.ensures.starts c.in_ok-record_replace.ensures.recorded c.record_replace.ensures.failing

pub returns-clause-map : goal.returns-clause-map
returns-clause-map c told = this_map _ _ c.args.name.now c.args.map.now (is_recorded c)

pub returns-clause-durable : goal.returns-clause-durable
returns-clause-durable c told = only_map_left _ _ c.args.name.now c.args.map.now (is_recorded c) c.args.self.now.failing c.args.self.now.failing 0 0

pub returns-clause-call : goal.returns-clause-call
returns-clause-call c = record {
  map = λ told. replace_call _ _ c.args.name.now c.args.map.now (is_recorded c) _ _ _ _;
  writes = call_writes c.args.self.now c.start_call.new.self c.record_replace.new.self (OfMap c.args.name.now c.args.map.now) c.start_call.ensures.calls c.start_call.ensures.reads c.in_ok-start_call.ensures.starts c.in_ok-record_replace.ensures.recorded c.record_replace.ensures.failing;
}

pub returns-clause-answers : goal.returns-clause-answers
returns-clause-answers c = call_answers c.args.self.now c.start_call.new.self c.record_replace.new.self (OfMap c.args.name.now c.args.map.now) c.start_call.ensures.calls c.start_call.ensures.reads c.in_ok-start_call.ensures.starts c.in_ok-record_replace.ensures.recorded c.record_replace.ensures.failing
