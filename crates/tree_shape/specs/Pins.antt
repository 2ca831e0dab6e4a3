-- The peaks one by one, the oldest first.
use Rattle.std.specs.Prelude.{◌≡◌, ℕ, zero, suc, ◌-◌, ◌^◌, ◌≤◌, List, [], ◌∷◌, length, map, reverse, take}
use Rattle.tree_shape.specs.Shape.{Shape, peaks, peaks_down}

abbrev pub position_of : Shape → ℕ × ℕ → ℕ
position_of s p = s.position p.0 p.1

-- the positions of the peaks of n leaves, the oldest first
abbrev pub pins : Shape → ℕ → List ℕ
pins s n = map (position_of s) (peaks s n)

-- where the i newest of these peaks begin, where they end at e
abbrev pub base : ℕ → List ℕ → ℕ → ℕ
base e hs zero = e
base e [] (suc i) = e
base e (k ∷ ks) (suc i) = base (e - 2 ^ k) ks i

-- the positions of the newest `left` peaks of n leaves, the oldest first
abbrev pub pins_left : Shape → ℕ → ℕ → List ℕ
pins_left s n left = map (position_of s) (reverse (take left (peaks_down n (s.heights n))))

pub record IsWalk (s : Shape) (n start left : ℕ) : Type 0 where
  pub few : n ≤ 2 ^ 62
  pub within : left ≤ length (s.heights n)
  pub at : start ≡ base n (s.heights n) left
