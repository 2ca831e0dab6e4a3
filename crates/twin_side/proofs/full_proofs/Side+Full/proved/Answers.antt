use Rattle.std.proofs.Common.{None, sym, ◌∙◌, ap}
use Rattle.std.specs.NonZero.{non_zero_u64_get}
use Rattle.std.specs.Option.{option_map}
use Rattle.std.proofs.lemmas.Result.{IfOk-weaker}
use Rattle.twin_side.proofs.ProvingLemmas.{answers_made, known_here, late_here, view}
use Rattle.twin_side.proofs.full_proofs.Side+Full.proved.Goals as goal

pub returns-in-Ok-Some-clause-ok : goal.returns-in-Ok-Some-clause-ok
returns-in-Ok-Some-clause-ok g c =
    IfOk-weaker c.proof_answer.result _ _
    (λ made is tells config s good.
    is
    ∙ answers_made s c.args.s (known_here config _ c.args.self.now.db _ s good c.args.s None c.requires.known) c.args.a (non_zero_u64_get c.args.n)
    (late_here config _ c.args.self.now.db _ s good c.args.s c.args.a None c.requires.late) (c.in-Ok-Some.proof, c.in-Ok-Some.operations.items)
    (ap (option_map view) (sym c.in-Ok-Some.field-0-is) ∙ c.in-Ok-Some.ensures.shown tells config s good))
    (rw c.deref.ensures.value at c.proof_answer.ensures.answer)
