-- What a node log and a map hold of a tree: its nodes by position, and in the map the pins of a boundary.
use Rattle.std.specs.Prelude.{◌≡◌, ◌⊎◌, ℕ, ◌^◌, ◌<◌, ◌≤◌, List, ◌∷◌, length, map, take, slice_get, Some, None, IsSome}
use Rattle.std.specs.FinMap as finmap
use Rattle.codec_base.specs.Laws.{eight_bytes}
use Rattle.volume_base.specs.Log.{Log}
use Rattle.volume_base.specs.Bounds.{IsPartOf}
use Rattle.volume_base.specs.Volume.{Map}
use Rattle.tree_shape.specs.Hashing.{Hashing}
use Rattle.tree_shape.specs.Shape.{Shape, made}
use Rattle.tree_shape.specs.Kept.{PeakOf}
use Rattle.tree_shape.specs.Slow.{nodes}

-- under which key the pin at a position stands, and under which the boundary
unfoldable pub node_key : ℕ → List ℕ
node_key p = 0 ∷ eight_bytes p

unfoldable pub boundary_key : List ℕ
boundary_key = 1 ∷ eight_bytes 0

-- how many nodes n leaves have
abbrev pub size : Shape → ℕ → ℕ
size s n = length (made s n)

-- the map stores this boundary, or none, which counts as 0
abbrev pub StoresBoundary : Map → ℕ → Type 0
StoresBoundary m boundary =
    (finmap.get m boundary_key ≡ Some (eight_bytes boundary))
    ⊎ ((finmap.get m boundary_key ≡ None) × (boundary ≡ 0))

-- It is the map of a list of leaf digests that is pruned at a boundary: each pin stands before the boundary's position and
-- is the node there, and all peaks of the boundary are pinned.
pub record IsMapOf {D : Type 0} (s : Shape) (h : Hashing D) (spelling : D → List ℕ) (all : List D) (boundary : ℕ)
    (m : Map) : Type 0 where
  pub stored : StoresBoundary m boundary
  pub within : boundary ≤ length all
  pub pins : (p : ℕ) (bytes : List ℕ) → p < 2 ^ 64 → finmap.get m (node_key p) ≡ Some bytes →
      slice_get (map spelling (take (size s boundary) (nodes s h all))) p ≡ Some bytes
  pub peaks : (x k : ℕ) → PeakOf s boundary x k → IsSome (finmap.get m (node_key (s.position x k)))

-- A node log and a map stand for a list of leaf digests, of which so many are durable, and which is pruned at no boundary
-- past `top`.
pub record TreeStands {D : Type 0} (s : Shape) (h : Hashing D) (spelling : D → List ℕ) (all : List D)
    (durable top : ℕ) (log : Log) (m : Map) : Type 0 where
  pub boundary : ℕ
  pub high : boundary ≤ top
  pub pins : IsMapOf s h spelling all boundary m
  pub nodes : IsPartOf (map spelling (nodes s h all)) (size s boundary) (size s durable) log
