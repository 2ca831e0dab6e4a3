-- A tree that begins in a sync: at the pins of a number of leaves, with what its log has of the leaves up to another
-- number.
use Rattle.std.specs.Prelude.{◌≡◌, ◌⊎◌, ◌≢◌, ℕ, ◌+◌, ◌<◌, ◌≤◌, false, List, length, map, take, slice_get, Option, Some, None, unwrap_or}
use Rattle.std.specs.FinMap as finmap
use Rattle.journal_base.specs.Blobs.{blob_start}
use Rattle.volume_base.specs.Bounds.{IsRunOf}
use Rattle.volume_base.specs.Log.{Log, end_of, cleared_at, cut_to, pruned_to}
use Rattle.volume_base.specs.Volume.{State, Map}
use Rattle.tree_shape.specs.Hashing.{Hashing}
use Rattle.tree_shape.specs.Pins.{pins}
use Rattle.tree_shape.specs.Shape.{Shape, peaks}
use Rattle.tree_shape.specs.Slow.{nodes, node_of}
use Rattle.tree_store.specs.Stored.{size}
use Rattle.tree_store.specs.Stores.{IsOutside}
use Rattle.tree_store.specs.declared.error.Error.{Error}
use Rattle.tree_store.specs.declared.error.Error.TheVariants.{InvalidPinnedNodes}
use Rattle.merkle_full.specs.Full.{Full}
use Rattle.merkle_full.specs.Opening.{IsMost}
use Rattle.merkle_full.specs.Pruning.{pinned_map}
use Rattle.merkle_full.specs.Recovering.{Source, IsRecovered, NotAllRecovered, NotReopened}
use Rattle.merkle_full.specs.Preparing.{contents_of}

-- ---- what is kept of the log

-- A log covers `start`: it begins at or before its position, and of the leaves up to `end` it has so many, more than
-- `start`.
pub record Covers (s : Shape) (start end : ℕ) (log : Log) (leaves : ℕ) : Type 0 where
  pub low : log.start ≤ size s start
  pub most : IsMost s end (end_of log) leaves
  pub past : start < leaves

-- It doesn't: it begins past the position of `start`, or ends before one more leaf is complete.
abbrev pub CoversNot : Shape → ℕ → Log → Type 0
CoversNot s start log = (size s start < log.start) ⊎ (end_of log < size s (start + 1))

-- how many leaves' nodes are kept of a log: none where it doesn't cover `start`
abbrev pub KeepsOf : Shape → ℕ → ℕ → Log → Option ℕ → Type 0
KeepsOf s start end log None = CoversNot s start log
KeepsOf s start end log (Some leaves) = Covers s start end log leaves

-- the log of the tree: empty at the position of `start`; or cut to the nodes that are kept, and pruned by blobs
abbrev pub log_begun : Shape → ℕ → ℕ → Option ℕ → Log → Log
log_begun s blob start None log = cleared_at (size s start)
log_begun s blob start (Some leaves) log = pruned_to (cut_to log (size s leaves)) (blob_start blob (size s start))

-- ---- pins

-- The pins at these positions: those that are given, or else each as map and log give it.
pub record ArePins {D : Type 0} (known : Type 0) (source : Source D) (ps : List ℕ) (given : Option (List D))
    (ds : List D) : Type 0 where
  pub counted : length ds ≡ length ps
  pub handed : (these : List D) → given ≡ Some these → ds ≡ these
  pub read : given ≡ None → (i p : ℕ) (d : D) → slice_get ps i ≡ Some p → slice_get ds i ≡ Some d
      → IsRecovered known source p d

-- The map of the tree has the boundary `start` and the pins of `start`, and no other key.
pub record IsMapBegun {D : Type 0} (source : Source D) (s : Shape) (start : ℕ) (given : Option (List D))
    (m : Map) : Type 0 where
  pub digests : List D
  pub are_pins : ArePins (Unit {0}) source (pins s start) given digests
  pub map_is : m ≡ pinned_map source.items.spelling finmap.empty (pins s start) digests start

-- there are more or fewer given pins than peaks of `start`
abbrev pub IsMiscounted : {D : Type 0} → Shape → ℕ → Option (List D) → Type 0
IsMiscounted s start None = ⊥
IsMiscounted s start (Some ds) = length ds ≢ length (s.heights start)

-- ---- the tree

-- The log covers so many leaves, or else has none beyond `start`; the tree has as many, and its log is what is kept.
pub record Begins {D : Type 0} (s : Shape) (start end : ℕ) (old new : Log) (t : Full D) : Type 0 where
  pub kept : Option ℕ
  pub keeps : KeepsOf s start end old kept
  pub leaves : t.tree.leaves ≡ unwrap_or kept start
  pub log : new ≡ log_begun s t.log.blob start kept old

-- It keeps no failure, its log and its map have these names, and the log's blobs so many nodes; it is pruned at
-- `start`.
pub record IsBegunAs {D : Type 0} (nodes : List ℕ) (blob : ℕ) (metadata : List ℕ) (start : ℕ)
    (t : Full D) : Type 0 where
  pub nodes_is : t.log.name ≡ nodes
  pub blob_is : t.log.blob ≡ blob
  pub unfailed : t.log.failed ≡ false
  pub metadata_is : t.metadata ≡ metadata
  pub boundary_is : t.boundary ≡ start

-- What the tree begins from is of this list of leaf digests: the pins are the list's peaks at `start`, and a log that
-- covers `start` has the list's nodes.
pub record IsBegunFrom {D : Type 0} (s : Shape) (h : Hashing D) (all : List D) (start end : ℕ) (given : Option (List D))
    (source : Source D) : Type 0 where
  pub long : start ≤ length all
  pub pinned : (ds : List D) → ArePins (Unit {0}) source (pins s start) given ds
      → ds ≡ map (node_of s h all) (peaks s start)
  pub few : (leaves : ℕ) → Covers s start end source.items.log leaves → leaves ≤ length all
  pub logged : (leaves : ℕ) → Covers s start end source.items.log leaves
      → IsRunOf (take (size s leaves) (map source.items.spelling (nodes s h all)))
      (cut_to source.items.log (size s leaves))

-- Why no tree begins: by the outside; or the given pins are miscounted; or without given ones a pin isn't recovered; or
-- a peak of the leaves that will stand isn't, from the tree's map or else from the log.
abbrev pub NotBegun : {F D : Type 0} → Source D → Shape → ℕ → ℕ → Option (List D) → Error F → Type 0
NotBegun source s start end given e = IsOutside e
    ⊎ (((e ≡ InvalidPinnedNodes) × IsMiscounted s start given)
    ⊎ (((given ≡ None) × NotAllRecovered (Unit {0}) source (pins s start) e)
    ⊎ ((kept : Option ℕ) × (m : Map) × KeepsOf s start end source.items.log kept × IsMapBegun source s start given m
    × NotReopened (Unit {0}) (contents_of source.items.spelling source.items.admits m source.items.log) s
    (unwrap_or kept start) start e)))

-- of a log beside a map: both as before, or the map is the new one
abbrev pub BeginsInOrder : {D : Type 0} → Source D → Shape → ℕ → Option (List D) → State → List ℕ → List ℕ → Log → Map
    → Type 0
BeginsInOrder source s start given old nodes metadata log m =
    (old.log_left old.clock nodes log × old.map_left old.clock metadata m) ⊎ IsMapBegun source s start given m
