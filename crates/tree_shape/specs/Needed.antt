-- Which nodes of a tree are needed from a number of leaves on.
use Rattle.std.specs.Prelude.{◌≡◌, ◌⊎◌, ℕ, suc, ◌+◌, ◌^◌, ◌<◌}
use Rattle.tree_shape.specs.Shape.{Shape, made, Stands}
use Rattle.tree_shape.specs.Kept.{PeakOf}

-- in a tree of n leaves the node of height h over x is a child of one that ends past b leaves
pub record IsChildPast (s : Shape) (n b x h : ℕ) : Type 0 where
  pub place : ℕ
  pub start : ℕ
  pub parent : Stands (made s n) place start (suc h)
  pub past : b < start + 2 ^ suc h
  pub side : (x ≡ start) ⊎ (x ≡ start + 2 ^ h)

-- of the nodes of n leaves it is needed from b leaves on: it is a peak, or a child of one that ends past them
abbrev pub IsNeeded : Shape → ℕ → ℕ → ℕ → ℕ → Type 0
IsNeeded s n b x h = PeakOf s n x h ⊎ IsChildPast s n b x h
