-- What commands that were refused leave of the batches of both sides.
use Rattle.std.proofs.Common.{◌≡◌, Some, Ok, Err, sym, ◌∙◌, ap, subst}
use Rattle.std.specs.Prelude.{Result, IfOk}
use Rattle.log_model.specs.declared.refusal.Refusal.{Refusal}
use Rattle.command_text.specs.declared.command.Answer.{Answer}
use Rattle.command_text.specs.declared.command.Answer.TheVariants as answer
use Rattle.command_text.specs.declared.command.Command.{Command}
use Rattle.list_machine.specs.Step.{refusal_in}
use Rattle.twin_batches.proofs.LeftBatches.{left_same}
use Rattle.twin_batches.specs.About.{about_of}
use Rattle.twin_batches.specs.declared.about.Topic.TheVariants.{Batches}
use Rattle.twin_batches.specs.Leaving.{LeavesBatches}
use Rattle.twin_databases.specs.CompactKind.{compact_kind}
use Rattle.twin_databases.specs.FullKind.{full_kind}
use Rattle.twin_run.specs.Twins.{LeaveBatches}
use Rattle.twin_run.specs.declared.ending.Fault.{Fault}
use Rattle.twin_run.specs.declared.sides.Twins.{Twins}

pub both_left : (c : Command) (why : Refusal) (old new : Twins) → (about_of c ≡ Batches → ⊥) → new ≡ old
    → LeaveBatches c why old new
both_left c why old new other same = subst (LeaveBatches c why old) (sym same) (record {
  full = left_same full_kind old.full.numbers c why other;
  compact = left_same compact_kind old.compact.numbers c why other;
})

-- what is refused for a reason is the refusal with it
refused_with : (a : Answer) (why : Refusal) → refusal_in a ≡ Some why → a ≡ answer.Refused why
refused_with (answer.Refused r) why e = let same : r ≡ why = cc in ap answer.Refused same
refused_with _ why e = absurd (cc)

pub agreed_left : (c : Command) (old new : Twins) (a other : Answer) (r : Result Answer Fault)
    → IfOk r (λ x. x ≡ a) → IfOk r (λ x. refusal_in a ≡ refusal_in other)
    → ((why : Refusal) → a ≡ answer.Refused why → LeavesBatches full_kind c why old.full.numbers new.full.numbers)
    → ((why : Refusal) → other ≡ answer.Refused why
    → LeavesBatches compact_kind c why old.compact.numbers new.compact.numbers)
    → IfOk r (λ x. (why : Refusal) → x ≡ answer.Refused why → LeaveBatches c why old new)
agreed_left c old new a other (Ok x) same alike full compact = λ why is.
    let mine : a ≡ answer.Refused why = sym same ∙ is in
    let told : refusal_in other ≡ Some why = sym alike ∙ ap refusal_in mine in
    record { full = full why mine; compact = compact why (refused_with other why told) }
agreed_left c old new a other (Err f) same alike full compact = tt
