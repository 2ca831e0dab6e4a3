-- A sealed batch over a tree.
use Rattle.std.specs.Prelude.{◌≡◌, ◌⊎◌, ℕ, List, ◌++◌, length, Option, nat_le, if◌then◌else◌}
use Rattle.tree_shape.specs.Shape.{Shape, made}
use Rattle.tree_core.specs.Tree.{Tree, node_at}
use Rattle.tree_core.specs.Batches.{Sealed, sealed_node}

-- the node at a position: what stands before the batch's nodes is the tree's
abbrev pub overlaid : {D : Type 0} → Shape → Sealed D → Tree D → ℕ → Option D
overlaid s b t p = if nat_le (length (made s b.first)) p then sealed_node s b p else node_at t p

-- one of the two lists begins the other
abbrev pub AreAlike : {D : Type 0} → List D → List D → Type 0
AreAlike {D} xs ys = ((more : List D) × (ys ≡ xs ++ more)) ⊎ ((more : List D) × (xs ≡ ys ++ more))
