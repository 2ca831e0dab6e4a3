use Rattle.std.proofs.Common.{◌≡◌}
use Rattle.compact_table.proofs.history.fill.Given as goal

abbrev pub invariant-loop-number : goal.invariant-loop-number
invariant-loop-number g l = l.batch.parent ≡ l.fn.batch.parent
