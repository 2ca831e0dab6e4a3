use Rattle.std.proofs.Common.{◌≡◌, ◌-◌, ◌++◌}
use Rattle.list_machine.specs.Generator.{drawn, appends}
use Rattle.list_machine.proofs.generator.push_appends.Given as goal

abbrev pub invariant-loop : goal.invariant-loop
invariant-loop l = record {
  last : drawn (l.count - l.counter) l.x ≡ drawn l.count l.before;
  added : l.commands.items ++ appends l.batch (l.count - l.counter) l.x
      ≡ l.fn.commands.items ++ appends l.batch l.count l.before;
}
