use Rattle.std.proofs.Common.{◌≡◌, ◌++◌, ◌-◌, map, take, drop}
use Rattle.stream_base.proofs.failing.count_down.Given as goal

abbrev pub invariant-loop-number : goal.invariant-loop-number
invariant-loop-number l = l.number-items ≡ map (λ n. n - 1) (take l.number-index l.fn.numbers.items) ++ drop l.number-index l.fn.numbers.items
