-- Which nodes a proof has: those subtrees of the peaks under which nothing is to be proved.
use Rattle.std.specs.Prelude.{ℕ, zero, suc, ◌+◌, ◌^◌, Bool, ◌&&◌, nat_lt, nat_le, List, [], ◌∷◌, ◌++◌, map, if◌then◌else◌}
use Rattle.std.specs.List.{list_any}
use Rattle.tree_shape.specs.Hashing.{Hashing}
use Rattle.tree_shape.specs.Shape.{Shape, peaks}
use Rattle.tree_shape.specs.Slow.{node_of}

-- whether a walk goes into the node over these leaves, by its first leaf and height: of a cover, where something is to be
-- proved under it
abbrev pub Opened : Type 0
Opened = ℕ → ℕ → Bool

-- one of the leaves a .. b stands under it
abbrev pub meets : ℕ → ℕ → Opened
meets a b x k = nat_lt a (x + 2 ^ k) && nat_lt x b

-- one of these leaves stands under it
abbrev pub holds_one : List ℕ → Opened
holds_one ls x k = list_any (λ l. nat_le x l && nat_lt l (x + 2 ^ k)) ls

-- the cover inside one node, from the left: a node that isn't met is in it, a leaf that is met isn't
unfoldable pub cover_in : Opened → ℕ → ℕ → List (ℕ × ℕ)
cover_in met x zero = if met x 0 then [] else ((x, 0) ∷ [])
cover_in met x (suc k) = if met x (suc k) then (cover_in met x k ++ cover_in met (x + 2 ^ k) k) else ((x, suc k) ∷ [])

-- inside these nodes, one after another
abbrev pub cover_over : Opened → List (ℕ × ℕ) → List (ℕ × ℕ)
cover_over met [] = []
cover_over met (p ∷ ps) = cover_in met p.0 p.1 ++ cover_over met ps

-- the cover in a tree of n leaves
abbrev pub cover : Shape → Opened → ℕ → List (ℕ × ℕ)
cover s met n = cover_over met (peaks s n)

-- its slow nodes
abbrev pub cover_digests : {D : Type 0} → Shape → Hashing D → List D → Opened → ℕ → List D
cover_digests s h leaves met n = map (node_of s h leaves) (cover s met n)
