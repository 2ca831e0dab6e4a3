use Rattle.std.proofs.Common.{◌≡◌, ◌+◌, ◌-◌, ◌*◌, ◌≤◌, ◌++◌}
use Rattle.list_machine.specs.Generator.{rounds, generated}
use Rattle.list_machine.proofs.generator.generate.Given as goal

abbrev pub invariant-loop : goal.invariant-loop
invariant-loop l = record {
  number : l.round.number ≡ l.counter;
  some : 1 ≤ l.round.size;
  size : l.round.size ≤ 1 + 17 * l.round.number;
  added : l.commands.items ++ rounds (l.count - l.counter) l.round ≡ generated l.fn.number l.count;
}
