-- The Merkle mountain belt: at each append the newest pair of neighbouring peaks of equal height is joined, once.
use Rattle.std.specs.Prelude.{ℕ, zero, suc, ◌+◌, ◌-◌, ◌*◌, ◌^◌, ◌==◌, List, [], ◌∷◌, length, if◌then◌else◌}
use Rattle.tree_shape.specs.Shape.{Shape}

-- the peaks from h on, the newest first, with their newest pair of equal height joined
abbrev pub merged : ℕ → List ℕ → List ℕ
merged h [] = h ∷ []
merged h (k ∷ ks) = if h == k then (suc h ∷ ks) else (h ∷ merged k ks)

-- the node that this makes, where the peaks end at e
abbrev pub merge : ℕ → ℕ → List ℕ → List (ℕ × ℕ)
merge e h [] = []
merge e h (k ∷ ks) = if h == k then ((e - 2 ^ suc h, suc h) ∷ []) else merge (e - 2 ^ h) k ks

unfoldable pub mmb_heights : ℕ → List ℕ
mmb_heights zero = []
mmb_heights (suc n) = merged 0 (mmb_heights n)

-- the number of nodes of n leaves
abbrev pub mmb_size : ℕ → ℕ
mmb_size n = 2 * n - length (mmb_heights n)

abbrev pub mmb_position : ℕ → ℕ → ℕ
mmb_position x zero = mmb_size x
mmb_position x (suc h) = mmb_size (x + 2 ^ suc h + 2 ^ h - 2) + 1

abbrev pub mmb : Shape
mmb = record {
  heights = mmb_heights;
  parents = λ n. merge (n + 1) 0 (mmb_heights n);
  position = mmb_position;
}
