use Rattle.std.proofs.Common.{◌≡◌, ◌+◌, ap, ◌∙◌, arith}
use Rattle.list_machine.specs.Generator.{appends_in}
use Rattle.list_machine.specs.declared.generator.Round.{Round}
use Rattle.list_machine.proofs.Generating.{appends_few, rounds_turn}
use Rattle.list_machine.proofs.generator.generate.Goals as goal

pub loop-preserved : goal.loop-preserved
loop-preserved c =
    let inv = c.loop.invariant in
    let r = c.loop.round in
    let next = c.in_ok-round.ensures.next in
    let number : c.in_ok-round.round.number ≡ r.number + 1 = ap (λ (q : Round). q.number) next in
    let size : c.in_ok-round.round.size ≡ r.size + appends_in r + 1 = ap (λ (q : Round). q.size) next in
    let few = appends_few r in record {
      number = omega (arith, number, inv.number);
      some = omega (arith, size);
      size = omega (arith, size, number, few, inv.size);
      added = rw (c.in_ok-round.ensures.ok, next)
          (rounds_turn c.loop.commands.items c.args.count c.loop.counter r c.loop-test.true ∙ inv.added);
    }
