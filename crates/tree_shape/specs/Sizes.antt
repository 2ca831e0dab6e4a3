-- Complete sizes: the numbers of nodes of a number of leaves.
use Rattle.std.proofs.Common.{◌≡◌, ℕ, ◌^◌, ◌≤◌, length}
use Rattle.tree_shape.specs.Shape.{Shape, made}

-- what is the size of n leaves is the greatest size at most p of at most 2^62 leaves
pub record IsNearest (s : Shape) (p size : ℕ) : Type 0 where
  pub leaves : ℕ
  pub few : leaves ≤ 2 ^ 62
  pub size_of : size ≡ length (made s leaves)
  pub below : size ≤ p
  pub greatest : (m : ℕ) → m ≤ 2 ^ 62 → length (made s m) ≤ p → length (made s m) ≤ size

-- it is a number of at most 2^62 leaves, whose size this is
abbrev pub HasSize : Shape → ℕ → ℕ → Type 0
HasSize s n size = (n ≤ 2 ^ 62) × (length (made s n) ≡ size)
