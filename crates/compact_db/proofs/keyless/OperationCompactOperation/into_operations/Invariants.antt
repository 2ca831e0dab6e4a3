use Rattle.std.proofs.Common.{◌≡◌, ◌++◌}
use Rattle.compact_db.specs.Keyless.{appends_of}
use Rattle.compact_db.proofs.keyless.OperationCompactOperation.into_operations.Given as goal

abbrev pub invariant-loop-value : goal.invariant-loop-value
invariant-loop-value g l =
    l.operations.items ++ appends_of l.value-iterator.rest.items ≡ appends_of l.fn.pending.items
