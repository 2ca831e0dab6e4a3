-- The witness of a list of operations.
use Rattle.std.specs.Prelude.{ℕ, ◌-◌, List}
use Rattle.tree_shape.specs.Hashing.{Hashing}
use Rattle.tree_shape.specs.Shape.{Shape}
use Rattle.log_model.specs.Meaning.{Meaning}
use Rattle.log_model.specs.Witness.{pins_of, last_bytes}
use Rattle.witness_store.specs.declared.witness.Witness.{Witness}

-- The witness of the first operations of a list, so many: the bytes of the last of them, their number, and the peaks
-- of the tree of those before it.
abbrev pub witness_of : {F D Op V : Type 0} → Shape → Hashing D → Meaning Op V → List Op → ℕ → Witness F D
witness_of s h m ops size = record {
  op_bytes = last_bytes s h m ops size;
  size = size;
  pinned_nodes = pins_of s h m ops (size - 1);
}
