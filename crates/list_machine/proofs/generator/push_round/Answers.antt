use Rattle.std.proofs.Common.{◌+◌, ◌-◌, refl}
use Rattle.list_machine.specs.Generator.{appends_in, upkeep}
use Rattle.list_machine.proofs.Generating.{round_joined}
use Rattle.list_machine.proofs.generator.push_round.Goals as goal

pub returns-clause-next : goal.returns-clause-next
unfolding appends_in
returns-clause-next c = rw (c.in_ok-drawn.ensures.drawn, c.draw-first.ensures) refl

pub returns-clause-ok : goal.returns-clause-ok
unfolding appends_in
returns-clause-ok c =
    let r = c.args.round in
    rw (
      c.in_ok-push_upkeep.ensures.ok,
      c.in_ok-push-4.ensures.items,
      c.in_ok-push-3.ensures.items,
      c.in_ok-push-2.ensures.items,
      c.in_ok-drawn.ensures.ok,
      c.in_ok-push.ensures.items,
      c.draw-first.ensures,
    )
    (round_joined c.args.commands.now.items (upkeep (r.number + 1) (r.size - 1)) r _ _ _)
