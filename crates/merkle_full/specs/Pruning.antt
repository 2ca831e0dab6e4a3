-- The map of a boundary that moves, and the tree beside it.
use Rattle.std.specs.Prelude.{◌≡◌, ◌≢◌, ◌⊎◌, ℕ, max, List, [], ◌∷◌, length, slice_get, Some, IsSome}
use Rattle.std.specs.FinMap as finmap
use Rattle.journal_base.specs.Items.{Items}
use Rattle.tree_shape.specs.Pins.{pins}
use Rattle.tree_store.specs.declared.error.Error.{Error}
use Rattle.codec_base.specs.Laws.{eight_bytes}
use Rattle.volume_base.specs.Moments.{Image, PairKeeps}
use Rattle.tree_shape.specs.Hashing.{Hashing}
use Rattle.tree_shape.specs.Shape.{Shape}
use Rattle.volume_base.specs.Volume.{State, Map}
use Rattle.tree_store.specs.Stored.{node_key, boundary_key, TreeStands}
use Rattle.merkle_full.specs.Flushing.{IsOfFlush}
use Rattle.merkle_full.specs.Full.{Full}
use Rattle.merkle_full.specs.Reading.{IsUnreadAmong}

-- the map with these digests pinned at these positions, one after another
abbrev pub with_pins : {D : Type 0} → (D → List ℕ) → Map → List ℕ → List D → Map
with_pins spelling m [] ds = m
with_pins spelling m (p ∷ ps) [] = m
with_pins spelling m (p ∷ ps) (d ∷ ds) = with_pins spelling (finmap.insert m (node_key p) (spelling d)) ps ds

-- and with this boundary
abbrev pub pinned_map : {D : Type 0} → (D → List ℕ) → Map → List ℕ → List D → ℕ → Map
pinned_map spelling m ps ds boundary = finmap.insert (with_pins spelling m ps ds) boundary_key (eight_bytes boundary)

-- each pin of the one map is in the other
abbrev pub KeepsPins : Map → Map → Type 0
KeepsPins m other = (p : ℕ) → IsSome (finmap.get m (node_key p)) → IsSome (finmap.get other (node_key p))

-- Of a key that is neither the boundary's nor that of a pin at one of these positions, the other map has what the one
-- has.
abbrev pub KeepsOthers : List ℕ → Map → Map → Type 0
KeepsOthers ps m other = (key : List ℕ) → key ≢ boundary_key → ((i p : ℕ) → slice_get ps i ≡ Some p → key ≢ node_key p)
    → finmap.get other key ≡ finmap.get m key

-- the same tree, pruned at another number of leaves
abbrev pub at_boundary : {D : Type 0} → Full D → ℕ → Full D
at_boundary t boundary = record { tree = t.tree; boundary = boundary; log = t.log; metadata = t.metadata }

-- It is the other tree, pruned at this number of leaves in memory alone.
pub record IsMovedTo {D : Type 0} (to : ℕ) (t u : Full D) : Type 0 where
  pub leaves : u.tree.leaves ≡ t.tree.leaves
  pub boundary : u.boundary ≡ to
  pub log : u.log ≡ t.log
  pub metadata : u.metadata ≡ t.metadata

-- the logs that are there, beside this map
abbrev pub beside_map : State → Map → Image
beside_map state m = record { log = state.log; map = λ name. m }

-- At each moment from the one to the other, what a crash leaves of its log, beside what it leaves of its map, stands as
-- before, or with all leaves durable, pruned at no boundary past `to` either.
abbrev pub StandsWhilePruned : {D : Type 0} → Shape → Hashing D → (D → List ℕ) → List D → ℕ → ℕ → ℕ → Full D → State
    → State → Type 0
StandsWhilePruned s h spelling all durable top to t old new =
    PairKeeps t.log.name t.metadata (λ log m. TreeStands s h spelling all durable top log m
    ⊎ TreeStands s h spelling all (length all) (max top to) log m) old new

-- why a prune fails, whatever the volume holds: as a flush, or for a pin that has no node or can't be read
abbrev pub IsOfPrune : {F D : Type 0} → Shape → Type 0 → Full D → Items D → ℕ → Error F → Type 0
IsOfPrune s tells t items to e = IsOfFlush s t e ⊎ IsUnreadAmong tells items (pins s to) e
