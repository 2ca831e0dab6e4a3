-- What a crash leaves of a side's database while a call runs.
use Rattle.std.proofs.Common.{◌≡◌, ℕ, Bool, true, false, List, ◌++◌, Some, None, Ok, Err, refl, sym, ◌∙◌, ap, subst}
use Rattle.std.specs.Prelude.{Result}
use Rattle.std.proofs.lemmas.Option.{none-some}
use Rattle.chain_core.specs.Reached.{item_at}
use Rattle.volume_base.specs.Moments.{present}
use Rattle.volume_base.specs.Volume as volume
use Rattle.log_model.specs.StateBatches as batches
use Rattle.log_model.specs.StateBatches.{is_held}
use Rattle.log_model.specs.Good.{IsGoodLog}
use Rattle.log_model.specs.Machine.{State, batch_at, applied}
use Rattle.log_model.specs.Reach.{may_apply}
use Rattle.log_model.specs.declared.refusal.Refusal.TheVariants.{StaleBatch}
use Rattle.command_text.specs.declared.command.Answer.TheVariants as answer
use Rattle.command_text.specs.declared.command.Command.{Command}
use Rattle.list_machine.specs.Config.{Config}
use Rattle.list_machine.specs.Operation.{Operation, meaning, one_list}
use Rattle.list_machine.specs.Step.{Outcome, refusal_in, apply, step}
use Rattle.list_machine.specs.Told.{IsTold}
use Rattle.twin_batches.specs.Kind.{Kind, kept_of}
use Rattle.twin_batches.specs.Standing.{StepsTo, KeepsTo, with_ops}
use Rattle.twin_batches.specs.StateOf.{IsStateOf, Takes, held_in, same_lists}
use Rattle.twin_batches.specs.declared.numbers.Holding.{Holding}
use Rattle.twin_batches.specs.declared.numbers.Numbers.{Numbers}
use Rattle.twin_batches.proofs.Handlers.{begins_where, apply_stale, apply_done, held_there, held_item, item_is, taken_there, refusal_none}

-- a batch that is held and that nothing refuses may be applied
not_stale : (s : State Operation) (b : ℕ) (c : batches.SealedBatch Operation) → is_held c ≡ true
    → None ≡ refusal_in (apply s b (batches.Sealed c)).0 → may_apply one_list s c ≡ true
not_stale s b c held none = cases (may_apply one_list s c) refl
  where
    cases : (may : Bool) → may_apply one_list s c ≡ may → may_apply one_list s c ≡ true
    cases true e = e
    cases false e =
        absurd (none-some StaleBatch (none ∙ ap (λ (o : Outcome). refusal_in o.0) (apply_stale s b c held e)))

module _ {Db S U : Type 0} (k : Kind Db S U) (was is : volume.State) (db : Db) (n : Numbers S U) where
  -- what the database's call says of each state of which the database is, the side's says of each state for which the
  -- side stands, whatever it makes of the database
  pub made_images : {T V E : Type 0} (tells : Type 0) (f : State Operation → State Operation) (made : T) (side : V)
      → (tells → (s : State Operation) → IsGoodLog meaning s → k.is_of (kept_of s) (present was) db
      → StepsTo k {E = E} s (f s) db was is (Ok made))
      → tells → (s : State Operation) → IsGoodLog meaning s → IsStateOf k (present was) db n s
      → StepsTo k {E = E} s (f s) db was is (Ok side)
  made_images tells f made side images told s good of before =
      let steps = images told s good of.log before in
      record { past = steps.past; ok = steps.ok; err = tt }

  pub failed_images : {T V E : Type 0} (tells : Type 0) (f : State Operation → State Operation) (error : E)
      → (tells → (s : State Operation) → IsGoodLog meaning s → k.is_of (kept_of s) (present was) db
      → StepsTo k {T = T} s (f s) db was is (Err error))
      → tells → (s : State Operation) → IsGoodLog meaning s → IsStateOf k (present was) db n s
      → StepsTo k {T = V} s (f s) db was is (Err error)
  failed_images tells f error images told s good of before =
      let steps = images told s good of.log before in
      record { past = steps.past; ok = tt; err = steps.err }

  -- and so it is of the command's step
  pub stored_images : {T E : Type 0} (tells : Type 0) (f : State Operation → State Operation) (c : Command)
      (result : Result T E) → ((config : Config) (s : State Operation) → (step config s c).1 ≡ f s)
      → (tells → (s : State Operation) → IsGoodLog meaning s → IsStateOf k (present was) db n s
      → StepsTo k s (f s) db was is result)
      → tells → (config : Config) (s : State Operation) → IsGoodLog meaning s → IsStateOf k (present was) db n s
      → StepsTo k s (step config s c).1 db was is result
  stored_images tells f c result same images told config s good of =
      subst (λ (t : State Operation). StepsTo k s t db was is result) (sym (same config s)) (images told s good of)

  -- of a sealed batch that the side may apply, what is said of the batch's list is said of what the apply leaves
  pub applied_images : (tells : Type 0) (b : ℕ) → Takes k db n b → (j : Holding)
      → held_in n.batches.items b ≡ Some j
      → (tells → (x : S) → item_at n.pool j.id ≡ Some x → (s : State Operation) (more : List Operation)
      → IsGoodLog meaning s → k.is_of (kept_of s) (present was) db → k.is_sealed (s.ops ++ more) x
      → KeepsTo k s (with_ops s (s.ops ++ more)) db was is)
      → tells → (s : State Operation) → IsTold s → IsGoodLog meaning s → IsStateOf k (present was) db n s
      → KeepsTo k s (apply s b (batch_at s b)).1 db was is
  applied_images tells b takes j at images told s by good of =
      let bs = n.batches.items in
      let t = held_there (same_lists k) bs n.pool s.batches of.batches b j at in
      let c = t.batch in
      let e = held_item (same_lists k) bs n.pool s.batches of.batches b j t in
      let there = item_is (same_lists k) bs n.pool s.batches of.batches b j t e.0 e.1 in
      let none = refusal_none k (present was) db n b j at true (taken_there k db n b takes j at) refl s by of in
      let here = ap (apply s b) t.machine in
      let may = not_stale s b c t.held (none ∙ ap (λ (o : Outcome). refusal_in o.0) here) in
      let done : apply s b (batch_at s b) ≡ (answer.Applied, applied s c) = here ∙ apply_done s b c t.held may in
      let more = begins_where s c.list c.boundary c.tips may in
      let sealed = subst (λ (l : List Operation). k.is_sealed l e.0.item) more.1 e.2.is.list in
      let left : with_ops s (s.ops ++ more.0) ≡ (apply s b (batch_at s b)).1 =
      ap (with_ops s) (sym more.1) ∙ sym (ap (λ (o : Outcome). o.1) done) in
      subst (λ (u : State Operation). KeepsTo k s u db was is) left
      (images told e.0.item there s more.0 good of.log sealed)
