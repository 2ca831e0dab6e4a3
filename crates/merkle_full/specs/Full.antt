-- A tree whose nodes stand in a log beside a map of pins, as contracts see it.
use Rattle.std.specs.Prelude.{◌≡◌, ℕ, ◌-◌, ◌<◌, ◌≤◌, List, Option, Some, None, Result, Ok, Err, slice_get, is_some, nat_le, if◌then◌else◌}
use Rattle.codec_base.specs.declared.error.CodecError.{CodecError}
use Rattle.codec_base.specs.Codec.{Reading}
use Rattle.codec_base.specs.Parts.{whole}
use Rattle.volume_base.specs.Log.{Log, end_of}
use Rattle.volume_base.specs.Moments.{Image}
use Rattle.journal_base.specs.View.{View}
use Rattle.tree_shape.specs.Shape.{Shape}
use Rattle.tree_store.specs.Stored.{size}
use Rattle.tree_core.specs.Tree.{Tree, IsSound, node_at, either, rests}

-- what memory keeps of it, the number of leaves at which it is pruned, its node log, and the name of its map
pub record Full (D : Type 0) : Type 0 where
  pub tree : Tree D
  pub boundary : ℕ
  pub log : View (Unit {0})
  pub metadata : List ℕ

-- Memory is sound. Before its own boundary it has exactly the peaks of that, and those of the boundary of the tree.
pub record IsKept {D : Type 0} (s : Shape) (t : Full D) : Type 0 where
  pub sound : IsSound s t.tree
  pub low : t.boundary ≤ t.tree.boundary
  pub exact : (p : ℕ) → p < size s t.tree.boundary → is_some (node_at t.tree p) ≡ rests s t.tree.boundary t.boundary p

-- Memory gives a node exactly at the peaks of the leaves and of the boundary.
pub record Rests {D : Type 0} (s : Shape) (t : Full D) : Type 0 where
  pub boundary : t.tree.boundary ≡ t.tree.leaves
  pub exact : (p : ℕ) → is_some (node_at t.tree p) ≡ rests s t.tree.leaves t.boundary p

-- It has the boundary, the log and the map of the other.
pub record IsBeside {D : Type 0} (t u : Full D) : Type 0 where
  pub boundary : u.boundary ≡ t.boundary
  pub log : u.log ≡ t.log
  pub metadata : u.metadata ≡ t.metadata

-- ---- its nodes

-- the digest that was read
abbrev pub found : {D : Type 0} → Result D CodecError → Option D
found (Ok d) = Some d
found (Err e) = None

-- the digest that a byte string spells
abbrev pub read_at : {D : Type 0} → (List ℕ → Reading D) → Option (List ℕ) → Option D
read_at reads None = None
read_at reads (Some bytes) = found (whole (reads bytes))

-- the digest at a position of a log
abbrev pub logged : {D : Type 0} → (List ℕ → Reading D) → Log → ℕ → Option D
logged reads log p = if nat_le log.start p then read_at reads (slice_get log.items (p - log.start)) else None

-- the node at a position: what memory keeps, or else what the log has
abbrev pub told_at : {D : Type 0} → (List ℕ → Reading D) → Full D → Image → ℕ → Option D
told_at reads t image p = either (node_at t.tree p) (logged reads (image.log t.log.name) p)

-- the byte string is the spelling of a digest that is allowed
pub record IsSpelled {D : Type 0} (spelling : D → List ℕ) (admits : D → Type 0) (bytes : List ℕ) : Type 0 where
  pub digest : D
  pub allowed : admits digest
  pub spelled : bytes ≡ spelling digest

-- The log begins where it is known to, ends where memory's own boundary stands, and holds digests.
pub record IsHeld {D : Type 0} (s : Shape) (spelling : D → List ℕ) (admits : D → Type 0) (t : Full D)
    (image : Image) : Type 0 where
  pub start_is : t.log.start ≡ (image.log t.log.name).start
  pub end_is : end_of (image.log t.log.name) ≡ size s t.tree.boundary
  pub digests : (i : ℕ) (bytes : List ℕ) → slice_get (image.log t.log.name).items i ≡ Some bytes
      → IsSpelled spelling admits bytes

-- The log has the tree's bounds, and ends where memory's own boundary stands.
pub record IsSeated {D : Type 0} (s : Shape) (t : Full D) (image : Image) : Type 0 where
  pub start_is : t.log.start ≡ (image.log t.log.name).start
  pub end_is : t.log.end ≡ end_of (image.log t.log.name)
  pub nodes : t.log.end ≡ size s t.tree.boundary
