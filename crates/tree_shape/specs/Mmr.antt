-- The Merkle mountain range.
use Rattle.std.specs.Prelude.{ℕ, zero, suc, ◌+◌, ◌-◌, ◌*◌, ◌^◌, ◌==◌, List, [], ◌∷◌, count_ones, if◌then◌else◌}
use Rattle.tree_shape.specs.Shape.{Shape}

-- the peaks behind a new one of height h, which is joined with the newest as long as the two have one height
abbrev pub joined : ℕ → List ℕ → List ℕ
joined h [] = h ∷ []
joined h (k ∷ ks) = if h == k then joined (suc h) ks else (h ∷ k ∷ ks)

-- the nodes that this makes, where the new peak ends at e
abbrev pub joins : ℕ → ℕ → List ℕ → List (ℕ × ℕ)
joins e h [] = []
joins e h (k ∷ ks) = if h == k then ((e - 2 ^ suc h, suc h) ∷ joins e (suc h) ks) else []

unfoldable pub mmr_heights : ℕ → List ℕ
mmr_heights zero = []
mmr_heights (suc n) = joined 0 (mmr_heights n)

-- the number of nodes of n leaves
abbrev pub mmr_size : ℕ → ℕ
mmr_size n = 2 * n - count_ones n

abbrev pub mmr : Shape
mmr = record {
  heights = mmr_heights;
  parents = λ n. joins (n + 1) 0 (mmr_heights n);
  position = λ x h. mmr_size (x + 2 ^ h - 1) + h;
}
