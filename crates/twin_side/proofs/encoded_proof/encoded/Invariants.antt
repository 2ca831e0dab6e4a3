use Rattle.std.proofs.Common.{◌≡◌, map, take}
use Rattle.list_machine.specs.Operation.{meaning}
use Rattle.twin_side.proofs.encoded_proof.encoded.Given as goal

abbrev pub invariant-loop-operation : goal.invariant-loop-operation
invariant-loop-operation l = l.list ≡ map meaning.encoding (take l.operation-index l.operations)
