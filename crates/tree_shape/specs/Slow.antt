-- The nodes of a tree over a list of leaf digests, each by recursion from the leaves.
use Rattle.std.specs.Prelude.{ℕ, zero, suc, ◌+◌, ◌^◌, List, [], length, map, slice_index_or}
use Rattle.std.specs.List.{enumerate_from}
use Rattle.tree_shape.specs.Hashing.{Hashing, leaf_input, node_input}
use Rattle.tree_shape.specs.Shape.{Shape, made, peaks_down}

-- the digest of leaf x: of its position and its bytes
abbrev pub leaf : {D : Type 0} → Shape → Hashing D → ℕ → List ℕ → D
leaf s h x element = h.digest (leaf_input (s.position x 0) element)

-- the leaf digests of a list of elements
abbrev pub leaf_digests : {D : Type 0} → Shape → Hashing D → List (List ℕ) → List D
leaf_digests s h elements = map (λ p. leaf s h p.0 p.1) (enumerate_from 0 elements)

-- leaf x; past the list, the digest of nothing
abbrev pub leaf_at : {D : Type 0} → Hashing D → List D → ℕ → D
leaf_at h leaves x = slice_index_or leaves x (h.digest [])

-- the node of this height over the leaves from x on
unfoldable pub node : {D : Type 0} → Shape → Hashing D → List D → ℕ → ℕ → D
node s h leaves x zero = leaf_at h leaves x
node s h leaves x (suc k) =
    h.digest (node_input h (s.position x (suc k)) (node s h leaves x k) (node s h leaves (x + 2 ^ k) k))

abbrev pub node_of : {D : Type 0} → Shape → Hashing D → List D → ℕ × ℕ → D
node_of s h leaves c = node s h leaves c.0 c.1

-- all nodes, in the order of making
abbrev pub nodes : {D : Type 0} → Shape → Hashing D → List D → List D
nodes s h leaves = map (node_of s h leaves) (made s (length leaves))

-- the digests of the peaks of these heights, the newest first, where they end at e
abbrev pub peak_digests : {D : Type 0} → Shape → Hashing D → List D → ℕ → List ℕ → List D
peak_digests s h leaves e ks = map (node_of s h leaves) (peaks_down e ks)
