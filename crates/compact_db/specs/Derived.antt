-- What is derived of a tree, of whichever list it is.
use Rattle.std.specs.Prelude.{◌≡◌, ℕ, ◌-◌, List, map, Some, Ok}
use Rattle.tree_shape.specs.Hashing.{Hashing}
use Rattle.tree_shape.specs.Pins.{pins}
use Rattle.tree_shape.specs.Root.{root_over}
use Rattle.tree_shape.specs.Shape.{Shape, inactive}
use Rattle.tree_shape.specs.declared.bagging.Bagging.TheVariants.{ForwardFold}
use Rattle.tree_proof.specs.Cover.{meets}
use Rattle.tree_proof.specs.declared.proof.Proof.{Proof}
use Rattle.tree_verification.specs.Ranges.{leaf_answer, Proves}
use Rattle.tree_core.specs.Reading.{ArePeaks}
use Rattle.tree_core.specs.Tree.{Tree, node_at}
use Rattle.compact_db.specs.declared.verified.VerifiedWitness.{VerifiedWitness}

-- These are the tree's nodes where the peaks of so many leaves stand, the oldest first.
abbrev pub ArePinsIn : {D : Type 0} → Shape → Tree D → ℕ → List D → Type 0
ArePinsIn s t leaves ds = map Some ds ≡ map (node_at t) (pins s leaves)

-- It is the root over the tree's own peaks under this floor.
abbrev pub IsRootOver : {D : Type 0} → Shape → Hashing D → Tree D → ℕ → D → Type 0
IsRootOver {D} s h t floor d =
    (ds : List D) → ArePeaks s t.leaves (λ x k. node_at t (s.position x k)) ds →
    d ≡ root_over h t.leaves ds (inactive s t.leaves floor) ForwardFold

-- It proves the tree's last leaf under this floor, by the tree's own nodes.
abbrev pub ProvesLast : {F D : Type 0} → Shape → Tree D → ℕ → Proof F D → Type 0
ProvesLast s t floor proof =
    Proves s (leaf_answer t.leaves (t.leaves - 1)) t.leaves (inactive s t.leaves floor) (meets (t.leaves - 1) t.leaves)
    (node_at t) (Ok proof)

-- It is derived of a tree whose last leaf is the commit of these bytes and this floor: the peaks before that leaf, the
-- root over its own peaks, and the proof of the leaf.
pub record IsDerivedOf {F D : Type 0} (s : Shape) (h : Hashing D) (t : Tree D) (bytes : List ℕ) (floor : ℕ)
    (v : VerifiedWitness F D) : Type 0 where
  pub bytes_are : v.witness.op_bytes ≡ bytes
  pub size : v.witness.size ≡ t.leaves
  pub pinned : ArePinsIn s t (t.leaves - 1) v.witness.pinned_nodes
  pub root : IsRootOver s h t floor v.root
  pub proof : ProvesLast s t floor v.proof
