use Rattle.std.specs.Prelude.{◌≡◌, ◌++◌, map, Some}
use Rattle.tree_shape.specs.Pins.{pins}
use Rattle.compact_db.specs.Proving.{node_over}
use Rattle.compact_db.proofs.proving.pins_over.Given as goal

abbrev pub invariant-loop-position : goal.invariant-loop-position
invariant-loop-position g l = record {
  read : map Some l.nodes.items ≡ map (node_over g.F.Family.shape l.fn.batch l.fn.mem) l.yielded;
  rest : l.yielded ++ l.position-iterator ≡ pins g.F.Family.shape l.fn.leaves;
}
