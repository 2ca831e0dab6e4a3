use Rattle.std.proofs.Common.{◌≡◌, ◌++◌}
use Rattle.compact_db.specs.Immutable.{sets_of}
use Rattle.compact_db.proofs.immutable.OperationCompactOperation.into_operations.Given as goal

abbrev pub invariant-loop-key : goal.invariant-loop-key
invariant-loop-key g l = l.operations.items ++ sets_of l.key-iterator ≡ sets_of l.fn.pending.values.entries
