-- The trees of two lists of elements.
use Rattle.std.specs.Prelude.{◌≡◌, ℕ, List, ◌^◌, ◌≤◌, length, map}
use Rattle.tree_shape.specs.declared.bagging.Bagging.{Bagging}
use Rattle.tree_shape.specs.Hashing.{Hashing}
use Rattle.tree_shape.specs.Shape.{Shape, peaks}
use Rattle.tree_shape.specs.Slow.{leaf_digests, node, node_of}
use Rattle.tree_shape.specs.Root.{root}
use Rattle.tree_proof.specs.Inputs.{slow_inputs, tree_inputs}
use Rattle.tree_evidence.specs.declared.tree.Tree.{Tree}
use Rattle.tree_evidence.specs.Evidence.{IsClash}

-- the digests are those of the elements' leaves and peaks
pub record IsWhole {D : Type 0} (s : Shape) (h : Hashing D) (t : Tree D) : Type 0 where
  pub few : length t.elements.now ≤ 2 ^ 62
  pub leaves : t.leaves.items ≡ leaf_digests s h t.elements.now
  pub peaks : t.peaks.items ≡ map (node_of s h (leaf_digests s h t.elements.now)) (peaks s (length t.elements.now))

abbrev pub leaf_count : {D : Type 0} → Tree D → ℕ
leaf_count t = length t.elements.now

abbrev pub peak_count : {D : Type 0} → Shape → Tree D → ℕ
peak_count s t = length (s.heights (leaf_count t))

-- the node of height k over the leaves from x on
abbrev pub node_in : {D : Type 0} → Shape → Hashing D → Tree D → ℕ → ℕ → D
node_in s h t x k = node s h (leaf_digests s h t.elements.now) x k

-- the root with k inactive peaks
abbrev pub root_in : {D : Type 0} → Shape → Hashing D → Bagging → Tree D → ℕ → D
root_in s h b t k = root s h (leaf_digests s h t.elements.now) k b

-- ---- two trees

abbrev pub AreWhole : {D : Type 0} → Shape → Hashing D → Tree D → Tree D → Type 0
AreWhole s h one other = IsWhole s h one × IsWhole s h other

-- two inputs at or below the nodes of height k over the leaves from x on
abbrev pub ClashBelow : {D : Type 0} → Shape → Hashing D → Tree D → Tree D → ℕ → ℕ → List ℕ × List ℕ → Type 0
ClashBelow s h one other x k r =
    IsClash h (slow_inputs s h one.elements.now x k) (slow_inputs s h other.elements.now x k) r.0 r.1

-- two inputs of the trees with j and k inactive peaks
abbrev pub ClashIn : {D : Type 0} → Shape → Hashing D → Bagging → Tree D → Tree D → ℕ → ℕ → List ℕ × List ℕ → Type 0
ClashIn s h b one other j k r =
    IsClash h (tree_inputs s h one.elements.now j b) (tree_inputs s h other.elements.now k b) r.0 r.1
