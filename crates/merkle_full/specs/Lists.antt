-- Of which list of leaf digests a tree is.
use Rattle.std.specs.Prelude.{◌≡◌, ℕ, ◌≤◌, List, All, Option, Some, None, false, slice_get, take}
use Rattle.volume_base.specs.Log.{end_of}
use Rattle.volume_base.specs.Moments.{Image}
use Rattle.journal_base.specs.Items.{Spells}
use Rattle.tree_shape.specs.Hashing.{Hashing}
use Rattle.tree_shape.specs.Shape.{Shape}
use Rattle.tree_shape.specs.Slow.{nodes}
use Rattle.tree_store.specs.Stored.{IsMapOf, size}
use Rattle.tree_core.specs.Pruned.{keeps}
use Rattle.tree_core.specs.Tree.{IsOf}
use Rattle.merkle_full.specs.Full.{Full}

-- each slow node of the list is a digest that is allowed
abbrev pub AreDigests : {D : Type 0} → Shape → Hashing D → (D → Type 0) → List D → Type 0
AreDigests s h admits all = All admits (nodes s h all)

-- It is the tree of this list of leaf digests, and the volume holds it: the log has the list's nodes up to memory's own
-- boundary, from a start that is at most the boundary's position; the map is that of the boundary.
pub record IsFullOf {D : Type 0} (s : Shape) (h : Hashing D) (spelling : D → List ℕ) (admits : D → Type 0)
    (all : List D) (t : Full D) (image : Image) : Type 0 where
  pub digests : AreDigests s h admits all
  pub tree : IsOf s h all t.tree
  pub start_is : t.log.start ≡ (image.log t.log.name).start
  pub end_is : t.log.end ≡ end_of (image.log t.log.name)
  pub nodes : Spells spelling (take (size s t.tree.boundary) (nodes s h all)) (image.log t.log.name)
  pub low : t.log.start ≤ size s t.boundary
  pub pins : IsMapOf s h spelling all t.boundary (image.map t.metadata)

-- what is read at a position is the list's node there; only below the boundary's position, and where no peak of the
-- boundary stands, is there none
abbrev pub IsNodeOf : {D : Type 0} → Shape → Hashing D → List D → ℕ → ℕ → Option D → Type 0
IsNodeOf s h all boundary p (Some d) = slice_get (nodes s h all) p ≡ Some d
IsNodeOf s h all boundary p None = keeps s boundary p ≡ false
