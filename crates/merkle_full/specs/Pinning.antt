-- Pins beside their positions.
use Rattle.std.specs.Prelude.{◌≡◌, ℕ, List, Some, slice_get}

-- the digest is the one for this position
pub record IsPinAt {D : Type 0} (positions : List ℕ) (digests : List D) (p : ℕ) (d : D) : Type 0 where
  pub index : ℕ
  pub position : slice_get positions index ≡ Some p
  pub digest : slice_get digests index ≡ Some d
