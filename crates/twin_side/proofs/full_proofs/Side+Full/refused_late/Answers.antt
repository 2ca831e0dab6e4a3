use Rattle.std.proofs.Common.{◌-◌, Some, None, sym, ◌∙◌, ap}
use Rattle.std.specs.Option.{option_map}
use Rattle.twin_side.proofs.ProvingLemmas.{answers_late, known_here, late_here, view}
use Rattle.twin_side.proofs.full_proofs.Side+Full.refused_late.Goals as goal

pub returns-in-Ok-Some-clause-ok : goal.returns-in-Ok-Some-clause-ok
returns-in-Ok-Some-clause-ok g c tells config s good a count late =
    answers_late s c.args.s (known_here config _ c.args.self.now.db _ s good c.args.s None c.requires) (c.args.s - 1) 1 a count (view c.in-Ok-Some.field-0-0)
    c.args.refusal (ap (option_map view) (sym c.in-Ok-Some.field-0-is) ∙ c.in-Ok-Some.ensures.shown tells config s good)
    (late_here config _ c.args.self.now.db _ s good c.args.s a (Some c.args.refusal) late)
