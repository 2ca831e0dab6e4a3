-- Nodes of a tree that is being opened: each from the map or else from the log.
use Rattle.std.specs.Prelude.{◌≡◌, ◌⊎◌, ℕ, ◌<◌, ◌≤◌, List, Some, None, IsSome, slice_get}
use Rattle.std.specs.FinMap as finmap
use Rattle.journal_base.specs.Items.{Items, items_of, Holds, IsCorrupt}
use Rattle.journal_base.specs.View.{View}
use Rattle.volume_base.specs.Volume.{State, Map}
use Rattle.volume_base.specs.declared.error.JournalError.TheVariants as journal
use Rattle.tree_shape.specs.Hashing.{Hashing}
use Rattle.tree_shape.specs.Pins.{pins}
use Rattle.tree_shape.specs.Shape.{Shape}
use Rattle.tree_shape.specs.Slow.{nodes}
use Rattle.tree_store.specs.Stored.{node_key}
use Rattle.tree_store.specs.Stores.{IsOutside}
use Rattle.tree_core.specs.Tree.{Tree, node_at}
use Rattle.tree_store.specs.declared.error.Error.{Error}
use Rattle.tree_store.specs.declared.error.Error.TheVariants.{DataCorrupted, MissingNode, Journal}
use Rattle.tree_store.specs.declared.error.TreeData.TheVariants.{Digest}

-- a map of pins, and the items of a log between a start and an end
pub record Source (D : Type 0) : Type 1 where
  pub pins : Map
  pub items : Items D
  pub start : ℕ
  pub end : ℕ

-- a map, and what a volume holds of a log that is seen so
abbrev pub source_of : {D Codec : Type 0} → (D → List ℕ) → (Codec → D → Type 0) → Map → View Codec → State → Source D
source_of spelling admits pins view state = record {
  pins = pins;
  items = items_of spelling admits view state;
  start = view.start;
  end = view.end;
}

-- The node at a position is this, a digest that is allowed: a pin counts before the log. What the log has is told where
-- its contents are known.
pub record IsRecovered {D : Type 0} (known : Type 0) (source : Source D) (p : ℕ) (d : D) : Type 0 where
  pub allowed : source.items.admits d
  pub pinned : (bytes : List ℕ) → finmap.get source.pins (node_key p) ≡ Some bytes → bytes ≡ source.items.spelling d
  pub logged : finmap.get source.pins (node_key p) ≡ None → known → Holds source.items p d

-- the pin at a position is no digest
pub record IsNoDigest {D : Type 0} (source : Source D) (p : ℕ) : Type 0 where
  pub some : IsSome (finmap.get source.pins (node_key p))
  pub unspelled : (bytes : List ℕ) (d : D) → finmap.get source.pins (node_key p) ≡ Some bytes → source.items.admits d
      → bytes ≡ source.items.spelling d → ⊥

-- Why the node at a position isn't recovered: by the outside; or its pin is no digest; or no pin is there, and the log
-- either doesn't have the position, or has bytes there that are no digest.
abbrev pub NotRecovered : {F D : Type 0} → Type 0 → Source D → ℕ → Error F → Type 0
NotRecovered known source p e = IsOutside e
    ⊎ (((e ≡ DataCorrupted Digest) × IsNoDigest source p)
    ⊎ ((finmap.get source.pins (node_key p) ≡ None)
    × (((e ≡ MissingNode p) × (known → (p < source.start) ⊎ (source.end ≤ p)))
    ⊎ ((e ≡ Journal (journal.Corruption p)) × (known → IsCorrupt source.items p)))))

-- ---- several positions

abbrev pub AllRecovered : {D : Type 0} → Type 0 → Source D → List ℕ → Type 0
AllRecovered {D} known source ps = (i p : ℕ) → slice_get ps i ≡ Some p → (d : D) × IsRecovered known source p d

-- the first whose node isn't recovered, and why
pub record IsFirstLost {F D : Type 0} (known : Type 0) (source : Source D) (ps : List ℕ) (e : Error F) : Type 0 where
  pub index : ℕ
  pub position : ℕ
  pub here : slice_get ps index ≡ Some position
  pub before : (i p : ℕ) → i < index → slice_get ps i ≡ Some p → (d : D) × IsRecovered known source p d
  pub why : NotRecovered known source position e

abbrev pub NotAllRecovered : {F D : Type 0} → Type 0 → Source D → List ℕ → Error F → Type 0
NotAllRecovered known source ps e = IsOutside e ⊎ IsFirstLost known source ps e

-- what is recovered at each peak of a number of leaves is the node of a list of leaf digests there
abbrev pub TellsPeaks : {D : Type 0} → Type 0 → Source D → Shape → Hashing D → List D → ℕ → Type 0
TellsPeaks {D} known source s h all leaves =
    (i p : ℕ) (d : D) → slice_get (pins s leaves) i ≡ Some p → IsRecovered known source p d
    → slice_get (nodes s h all) p ≡ Some d

-- Each peak of the leaves is recovered, and each of those at which the tree is pruned.
pub record ArePeaksRecovered {D : Type 0} (known : Type 0) (source : Source D) (s : Shape)
    (leaves boundary : ℕ) : Type 0 where
  pub of_leaves : AllRecovered known source (pins s leaves)
  pub of_boundary : AllRecovered known source (pins s boundary)

-- Memory isn't made again: a peak of the leaves isn't recovered; or each of these is, and one of the boundary isn't.
abbrev pub NotReopened : {F D : Type 0} → Type 0 → Source D → Shape → ℕ → ℕ → Error F → Type 0
NotReopened known source s leaves boundary e =
    NotAllRecovered known source (pins s leaves) e
    ⊎ (AllRecovered known source (pins s leaves) × NotAllRecovered known source (pins s boundary) e)

-- Each node that memory has before this size is recovered.
abbrev pub IsRecalled : {D : Type 0} → Type 0 → Source D → ℕ → Tree D → Type 0
IsRecalled {D} known source size t = (p : ℕ) (d : D) → p < size → node_at t p ≡ Some d → IsRecovered known source p d
