-- What a list of operations means: its floor, its leaves and its root.
use Rattle.std.specs.Prelude.{ℕ, List, [], ◌∷◌, length, map, unwrap_or, Option, None}
use Rattle.std.specs.List.{enumerate_from}
use Rattle.tree_shape.specs.Hashing.{Hashing}
use Rattle.tree_shape.specs.Shape.{Shape, inactive}
use Rattle.tree_shape.specs.Slow.{leaf, leaf_digests}
use Rattle.tree_shape.specs.Root.{root}
use Rattle.tree_shape.specs.declared.bagging.Bagging.TheVariants.{ForwardFold}
use Rattle.log_model.specs.Meaning.{Meaning}

-- The floor of a list is that of the commit that ends it. It is 0 where no commit does.
abbrev pub floor_of : {Op V : Type 0} → Meaning Op V → List Op → ℕ
floor_of m [] = 0
floor_of m (op ∷ []) = unwrap_or (m.floor op) 0
floor_of m (op ∷ next ∷ ops) = floor_of m (next ∷ ops)

-- The value of the operation that ends a list; of a commit, its metadata.
abbrev pub last_value : {Op V : Type 0} → Meaning Op V → List Op → Option V
last_value m [] = None
last_value m (op ∷ []) = m.value op
last_value m (op ∷ next ∷ ops) = last_value m (next ∷ ops)

-- The digests of the leaves that these operations are, from leaf i on: each is that of its position and its bytes.
abbrev pub leaves_from : {D Op V : Type 0} → Shape → Hashing D → Meaning Op V → ℕ → List Op → List D
leaves_from s h m i ops = map (λ p. leaf s h p.0 p.1) (enumerate_from i (map m.encoding ops))

-- The root of a list of operations: that of the tree of their bytes, folded forward, with the peaks that end at or below its floor inactive.
unfoldable pub root_of : {D Op V : Type 0} → Shape → Hashing D → Meaning Op V → List Op → D
root_of s h m ops =
    root s h (leaf_digests s h (map m.encoding ops)) (inactive s (length ops) (floor_of m ops)) ForwardFold
