use Rattle.std.proofs.Common.{◌≡◌, [], ◌∷◌, ◌++◌, List, ℕ, inr, refl, ◌∙◌, ap, rules}
use Rattle.volume_base.specs.Log.{Vanishes}
use Rattle.memory_volume.specs.declared.entry.Entry.TheVariants.{OfLog}
use Rattle.memory_volume.specs.declared.entry.LogChange.TheVariants.{Put}
use Rattle.memory_volume.proofs.VersionLemmas.{vanishes_same}
use Rattle.memory_volume.proofs.CallLemmas.{pushed, call_writes, call_answers}
use Rattle.memory_volume.proofs.StateLemmas.{idle_log_call, contents_are, only_one_left, one_call}
use Rattle.memory_volume.proofs.memory.MemoryVolumeVolume.log_remove.Goals as goal

pub returns-in_err-start_call-clause-call : goal.returns-in_err-start_call-clause-call
returns-in_err-start_call-clause-call c = record { log = λ told. idle_log_call _ _ _ _ _ _ c.args.name.now _ c.start_call.ensures.calls vanishes_same; writes = search rules }

pub returns-in_err-record_change-clause-call : goal.returns-in_err-record_change-clause-call
returns-in_err-record_change-clause-call c = record { log = λ told. idle_log_call _ _ _ _ _ _ c.args.name.now _ (c.in_err-record_change.ensures.recorded.err ∙ c.start_call.ensures.calls) vanishes_same; writes = search rules }

is_recorded : (c : goal.In_ok-record_change) → c.record_change.new.self.calls.items ≡ c.args.self.now.calls.items ++ OfLog c.args.name.now (Put 0 []) ∷ []
is_recorded c = pushed c.args.self.now c.start_call.new.self c.record_change.new.self (OfLog c.args.name.now (Put 0 c.new-none.result)) c.start_call.ensures.calls c.start_call.ensures.reads c.in_ok-start_call.ensures.starts c.in_ok-record_change.ensures.recorded c.record_change.ensures.failing ∙ ap (λ (l : List (List ℕ)). c.args.self.now.calls.items ++ OfLog c.args.name.now (Put 0 l) ∷ []) c.new-none.ensures

pub returns-clause-removed : goal.returns-clause-removed
returns-clause-removed c told = contents_are _ _ c.args.name.now (Put 0 []) (is_recorded c)

pub returns-clause-durable : goal.returns-clause-durable
returns-clause-durable c told = only_one_left _ _ c.args.name.now (Put 0 []) (is_recorded c) c.args.self.now.failing c.args.self.now.failing 0 0 _ refl

pub returns-clause-call : goal.returns-clause-call
returns-clause-call c = record {
  log = λ told. one_call _ _ c.args.name.now (Put 0 []) (is_recorded c) _ _ _ _ Vanishes _ refl vanishes_same (inr refl);
  writes = call_writes c.args.self.now c.start_call.new.self c.record_change.new.self (OfLog c.args.name.now (Put 0 c.new-none.result)) c.start_call.ensures.calls c.start_call.ensures.reads c.in_ok-start_call.ensures.starts c.in_ok-record_change.ensures.recorded c.record_change.ensures.failing;
}

pub returns-clause-answers : goal.returns-clause-answers
returns-clause-answers c = call_answers c.args.self.now c.start_call.new.self c.record_change.new.self (OfLog c.args.name.now (Put 0 c.new-none.result)) c.start_call.ensures.calls c.start_call.ensures.reads c.in_ok-start_call.ensures.starts c.in_ok-record_change.ensures.recorded c.record_change.ensures.failing
