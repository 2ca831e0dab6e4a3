use Rattle.std.proofs.Common.{◌≡◌, ◌+◌, drop}
use Rattle.log_model.specs.AppliedSizes.{first_at_least}
use Rattle.log_model.proofs.sizes.first_at_least.Given as goal

abbrev pub invariant-loop-i : goal.invariant-loop-i
invariant-loop-i l = first_at_least l.least l.sizes ≡ l.i + first_at_least l.least (drop l.i l.sizes)
