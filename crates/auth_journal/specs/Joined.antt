-- A log of items joined with the tree of their spellings, as contracts see it.
use Rattle.std.specs.Prelude.{◌≡◌, ◌≢◌, ℕ, List, map, Bool, false}
use Rattle.volume_base.specs.Log.{end_of}
use Rattle.volume_base.specs.Moments.{Image}
use Rattle.journal_base.specs.View.{View, SameButBounds, after_sync}
use Rattle.journal_base.specs.Items.{Spells}
use Rattle.tree_shape.specs.declared.bagging.Bagging.{Bagging}
use Rattle.tree_shape.specs.Hashing.{Hashing}
use Rattle.tree_shape.specs.Shape.{Shape}
use Rattle.tree_shape.specs.Slow.{leaf_digests}
use Rattle.merkle_full.specs.Full.{Full}
use Rattle.merkle_full.specs.Lists.{IsFullOf}

-- the view of the log, the tree, how its peaks are folded, and whether a failed sync is kept
pub record Joined (D Codec : Type 0) : Type 0 where
  pub items : View Codec
  pub tree : Full D
  pub bagging : Bagging
  pub failed : Bool

-- The names of the two logs differ, and what keeps no failure has none below.
pub record IsSoundJoin {D Codec : Type 0} (j : Joined D Codec) : Type 0 where
  pub apart : j.items.name ≢ j.tree.log.name
  pub items : j.failed ≡ false → j.items.failed ≡ false
  pub tree : j.failed ≡ false → j.tree.log.failed ≡ false

-- the log with the failure that is kept, be it the log's own or the tree's
abbrev pub log_view : {D Codec : Type 0} → Joined D Codec → View Codec
log_view j = after_sync j.items j.failed

-- the leaf digests of a list of items
abbrev pub leaves_of : {D Item : Type 0} → Shape → Hashing D → (Item → List ℕ) → List Item → List D
leaves_of s h spelling list = leaf_digests s h (map spelling list)

-- It is the journal of this list, and the volume holds it: the log is a run of the list, and item i is leaf i of the tree.
pub record IsJoinedOf {D Codec Item : Type 0} (s : Shape) (h : Hashing D) (digest : D → List ℕ) (admits : D → Type 0) (spelling : Item → List ℕ)
    (list : List Item) (j : Joined D Codec) (image : Image) : Type 0 where
  pub items : Spells spelling list (image.log j.items.name)
  pub start_is : j.items.start ≡ (image.log j.items.name).start
  pub end_is : j.items.end ≡ end_of (image.log j.items.name)
  pub tree : IsFullOf s h digest admits (leaves_of s h spelling list) j.tree image

-- It has the log of the other but for the bounds, its map, its boundary, and how peaks are folded.
pub record IsSameJoin {D Codec : Type 0} (j k : Joined D Codec) : Type 0 where
  pub items : SameButBounds j.items k.items
  pub boundary : k.tree.boundary ≡ j.tree.boundary
  pub log : SameButBounds j.tree.log k.tree.log
  pub metadata : k.tree.metadata ≡ j.tree.metadata
  pub bagging : k.bagging ≡ j.bagging
  pub failed : k.failed ≡ j.failed
