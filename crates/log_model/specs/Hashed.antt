-- What is hashed for lists of operations, and lists without a clash.
use Rattle.std.specs.Prelude.{ℕ, List, length, map}
use Rattle.std.specs.List.{flat_map}
use Rattle.tree_shape.specs.Hashing.{Hashing}
use Rattle.tree_shape.specs.Shape.{Shape, inactive}
use Rattle.tree_shape.specs.declared.bagging.Bagging.TheVariants.{ForwardFold}
use Rattle.tree_proof.specs.Inputs.{Clash, tree_inputs}
use Rattle.log_model.specs.Meaning.{Meaning}
use Rattle.log_model.specs.Operations.{floor_of}

-- All that is hashed for a list: the leaves, the nodes, the folds and the root of its tree.
abbrev pub inputs_of : {D Op V : Type 0} → Shape → Hashing D → Meaning Op V → List Op → List (List ℕ)
inputs_of s h m ops = tree_inputs s h (map m.encoding ops) (inactive s (length ops) (floor_of m ops)) ForwardFold

-- Of all that is hashed for these lists, no two different inputs have one digest.
abbrev pub NoClash : {D Op V : Type 0} → Shape → Hashing D → Meaning Op V → List (List Op) → Type 0
NoClash s h m lists = Clash h (flat_map (inputs_of s h m) lists) → ⊥
