-- Pins, the peaks of a tree of fewer leaves, and the nodes of a cover to which they hash.
use Rattle.std.specs.Prelude.{◌≡◌, ℕ, ◌+◌, not, List, [], length, take, filter, Some}
use Rattle.tree_shape.specs.Hashing.{Hashing}
use Rattle.tree_shape.specs.Shape.{Shape, ends_by}
use Rattle.tree_shape.specs.Kept.{is_peak}
use Rattle.tree_shape.specs.Slow.{leaf}
use Rattle.tree_proof.specs.declared.proof.Proof.{Proof}
use Rattle.tree_proof.specs.Cover.{Opened, meets, cover}
use Rattle.tree_proof.specs.Check.{wholly_rebuilt}

-- it is no pin, so it is made from its halves
abbrev pub above_pins : Shape → ℕ → Opened
above_pins s a x k = not (is_peak a (s.heights a) x k)

-- the nodes that end at or below a
abbrev pub left_of : ℕ → List (ℕ × ℕ) → List (ℕ × ℕ)
left_of a ps = filter (ends_by a) ps

-- the nodes of the cover left of the leaves from a on
abbrev pub left_cover : {F D : Type 0} → Shape → Proof F D → ℕ → ℕ → List (ℕ × ℕ)
left_cover s proof a count = left_of a (cover s (meets a (a + count)) proof.leaves)

-- the pins are as many as the peaks of a leaves, and hash to the nodes of the cover left of a; no leaf is asked for
pub record HasPins {F D : Type 0} (s : Shape) (h : Hashing D) (proof : Proof F D) (a count : ℕ)
    (pins : List D) : Type 0 where
  pub counted : length pins ≡ length (s.heights a)
  pub hashed : let left = left_cover s proof a count in
      wholly_rebuilt s h (above_pins s a) (λ x. leaf s h x []) left pins ≡ Some (take (length left) proof.digests)
