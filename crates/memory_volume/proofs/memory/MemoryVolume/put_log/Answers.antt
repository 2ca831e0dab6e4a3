use Rattle.std.proofs.Common.{◌≡◌, [], ◌∷◌, ◌++◌, List, ℕ, inl, inr, refl, ◌∙◌, ap}
use Rattle.volume_base.specs.Log.{Log, BecomesOneOf}
use Rattle.memory_volume.specs.declared.entry.Entry.TheVariants.{OfLog}
use Rattle.memory_volume.specs.declared.entry.LogChange.TheVariants.{Put}
use Rattle.memory_volume.proofs.StateLemmas.{idle_log_call, contents_are, only_one_left, one_call}
use Rattle.memory_volume.proofs.memory.MemoryVolume.put_log.Goals as goal

pub returns-in_err-put-clause-log : goal.returns-in_err-put-clause-log
returns-in_err-put-clause-log c = idle_log_call _ _ _ _ _ _ c.args.name.now _ refl (λ log. inl refl)

pub returns-in_err-record_change-clause-log : goal.returns-in_err-record_change-clause-log
returns-in_err-record_change-clause-log c = idle_log_call _ _ _ _ _ _ c.args.name.now _ c.in_err-record_change.ensures.recorded.err (λ log. inl refl)

is_recorded : (c : goal.In_ok-record_change) → c.record_change.new.self.calls.items ≡ c.args.self.now.calls.items ++ OfLog c.args.name.now (Put c.args.start c.args.items.now) ∷ []
is_recorded c = c.in_ok-record_change.ensures.recorded.ok ∙ ap (λ (l : List (List ℕ)). c.args.self.now.calls.items ++ OfLog c.args.name.now (Put c.args.start l) ∷ []) c.in_ok-put.ensures.same

pub returns-clause-put : goal.returns-clause-put
returns-clause-put c = contents_are _ _ c.args.name.now (Put c.args.start c.args.items.now) (is_recorded c)

pub returns-clause-durable : goal.returns-clause-durable
returns-clause-durable c = only_one_left _ _ c.args.name.now (Put c.args.start c.args.items.now) (is_recorded c) c.args.self.now.failing c.args.self.now.failing 0 0 _ refl

pub returns-clause-log : goal.returns-clause-log
returns-clause-log c = one_call _ _ c.args.name.now (Put c.args.start c.args.items.now) (is_recorded c) _ _ _ _ (BecomesOneOf (let made : Log = record { start = c.args.start; items = c.args.items.now } in made)) _ refl (λ log. inl refl) (inr refl)
