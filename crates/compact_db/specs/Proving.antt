-- What proves a sealed batch's own operations.
use Rattle.std.specs.Prelude.{◌≡◌, ℕ, ◌∷◌, Option, Some, None, Result, Ok, Err, Contains}
use Rattle.tree_shape.specs.Shape.{Shape}
use Rattle.tree_store.specs.declared.error.Error as tree
use Rattle.tree_core.specs.Batches.{Sealed, sealed_node}
use Rattle.tree_core.specs.Tree.{Tree, node_at}
use Rattle.chain_core.specs.Errors.{from_tree}
use Rattle.chain_core.specs.declared.error.Error.{Error}
use Rattle.compact_db.specs.Batches.{MerkleizedView}
use Rattle.compact_db.specs.DbView.{DbView, commitment_in}

-- The state of the database is one of the batch's chain.
abbrev pub IsInChain : {F D Op Cfg : Type 0} → MerkleizedView F D Op → DbView F D Op Cfg → Type 0
IsInChain b db = Contains (b.bounds.tip ∷ b.bounds.db ∷ b.bounds.ancestors) (commitment_in db)

-- An answer of a tree, as a database's.
abbrev pub lifted : {F T : Type 0} → Result T (tree.Error F) → Result T (Error F)
lifted (Ok x) = Ok x
lifted (Err e) = Err (from_tree e)

-- It is such an answer, as a database's.
pub record Lifts {F T : Type 0} (P : Result T (tree.Error F) → Type 0) (result : Result T (Error F)) : Type 0 where
  pub below : Result T (tree.Error F)
  pub is : result ≡ lifted below
  pub says : P below

-- This node, or else the other.
abbrev pub or_else : {D : Type 0} → Option D → Option D → Option D
or_else (Some d) other = Some d
or_else None other = other

-- The node at a position: the batch's, or else the tree's.
abbrev pub node_over : {D : Type 0} → Shape → Sealed D → Tree D → ℕ → Option D
node_over s b t p = or_else (sealed_node s b p) (node_at t p)
