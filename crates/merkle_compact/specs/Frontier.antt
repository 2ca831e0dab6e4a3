-- A tree that keeps its peaks alone, and why one isn't made.
use Rattle.std.specs.Prelude.{◌≡◌, ℕ, ◌^◌, ◌==◌, nat_le, List, length, map, is_some, false, None, Result, Ok, Err}
use Rattle.std.specs.Prelude.{if◌then◌else◌}
use Rattle.tree_shape.specs.Hashing.{Hashing}
use Rattle.tree_shape.specs.Shape.{Shape, peaks}
use Rattle.tree_shape.specs.Slow.{node_of}
use Rattle.tree_store.specs.declared.error.Error.{Error}
use Rattle.tree_store.specs.declared.error.Error.TheVariants.{LocationOverflow, InvalidPinnedNodes}
use Rattle.tree_core.specs.Pruned.{is_peak_at, keeps}
use Rattle.tree_core.specs.Reading.{ArePeaks}
use Rattle.tree_core.specs.Tree.{Tree, node_at, IsOf}

-- A node is kept exactly where a peak of the leaves stands.
abbrev pub IsFrontier : {D : Type 0} → Shape → Tree D → Type 0
IsFrontier s t = (p : ℕ) → is_some (node_at t p) ≡ is_peak_at s t.leaves (s.heights t.leaves) p

-- These are the tree's nodes at the peaks of so many leaves, the oldest first.
abbrev pub HasPeaks : {D : Type 0} → Shape → ℕ → List D → Tree D → Type 0
HasPeaks s leaves pins t = ArePeaks s leaves (λ x k. node_at t (s.position x k)) pins

-- It is the tree of each list of so many leaf digests whose slow nodes at the peaks are these.
abbrev pub IsTreeOfPins : {D : Type 0} → Shape → ℕ → List D → Tree D → Type 0
IsTreeOfPins {D} s leaves pins t = (h : Hashing D) (all : List D) →
    leaves ≡ length all → pins ≡ map (node_of s h all) (peaks s leaves) → IsOf s h all t

-- Before its boundary the tree keeps the boundary's peaks alone.
pub record HasNoPins {D : Type 0} (s : Shape) (t : Tree D) : Type 0 where
  pub none : (p : ℕ) → keeps s t.boundary p ≡ false → node_at t p ≡ None

-- Whether a tree can have so many leaves, and this many peaks; the first test that fails answers.
abbrev pub frontier_answer : {F : Type 0} → Shape → ℕ → ℕ → Result (Unit {0}) (Error F)
frontier_answer s leaves pins =
    if nat_le leaves (2 ^ 62) then (if pins == length (s.heights leaves) then Ok tt else Err InvalidPinnedNodes)
    else Err (LocationOverflow leaves)
