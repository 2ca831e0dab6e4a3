-- A tree that is being opened, and why it isn't.
use Rattle.std.specs.Prelude.{◌≡◌, ◌⊎◌, ℕ, ◌+◌, ◌^◌, ◌<◌, ◌≤◌, min, List, Option, Some, None, Ok, Err, unwrap_or, Bool, ◌&&◌, true, nat_lt, is_some, if◌then◌else◌}
use Rattle.std.specs.Coded.{Coded, coded_ℕ, coded_list}
use Rattle.std.specs.FinMap as finmap
use Rattle.volume_base.specs.Log.{Log, end_of, cleared_at, cut_to, pruned_to}
use Rattle.volume_base.specs.Volume.{State, Map}
use Rattle.volume_base.specs.declared.error.JournalError.TheVariants as journal
use Rattle.journal_base.specs.Blobs.{blob_start}
use Rattle.journal_base.specs.Items.{Items, Holds, IsCorrupt}
use Rattle.journal_base.specs.View.{View, SameButBounds, IsHeld}
use Rattle.tree_shape.specs.Shape.{Shape}
use Rattle.tree_store.specs.Stored.{size}
use Rattle.tree_store.specs.Stores.{IsOutside}
use Rattle.tree_store.specs.declared.error.Error.{Error}
use Rattle.tree_store.specs.declared.error.Error.TheVariants.{Journal}
use Rattle.tree_core.specs.Tree.{Tree, IsSound, node_at, rests}
use Rattle.merkle_full.specs.Full.{Full}
use Rattle.merkle_full.specs.Opening.{stored_in, Selects, NotSelected}
use Rattle.merkle_full.specs.Recovering.{Source, ArePeaksRecovered, IsRecalled, NotReopened}

-- a cap on the number of leaves; none, and one above the greatest number, counts as that
abbrev pub cap_of : Option ℕ → ℕ
cap_of cap = min (unwrap_or cap (2 ^ 62)) (2 ^ 62)

-- the node log from which a tree is opened: where no boundary is stored, one that doesn't start at 0 is cleared
abbrev pub log_kept : Option ℕ → Log → Log
log_kept (Some boundary) log = log
log_kept None log = if nat_lt 0 log.start then cleared_at 0 else log

-- of a log with this end, whether an orphan leaf stands behind the nodes of so many leaves, and the cap allows it
abbrev pub has_orphan : Shape → ℕ → ℕ → ℕ → Bool
has_orphan s cap end complete = nat_lt complete cap && nat_lt (size s complete) end

-- the leaves of the opened tree: the complete ones, and an orphan
abbrev pub leaves_reached : Shape → ℕ → ℕ → ℕ → ℕ
leaves_reached s cap end complete = if has_orphan s cap end complete then complete + 1 else complete

-- the node log of an opened tree: cut to the nodes of the complete leaves, and from the blob of the boundary's position
-- on
abbrev pub settled_log : Shape → ℕ → ℕ → ℕ → Log → Log
settled_log s blob boundary complete log = pruned_to (cut_to log (size s complete)) (blob_start blob (size s boundary))

-- at this position a log holds this digest, and it is allowed
pub record IsLogged {D : Type 0} (items : Items D) (p : ℕ) (d : D) : Type 0 where
  pub held : Holds items p d
  pub allowed : items.admits d

-- Where an orphan leaf stands behind the nodes of so many leaves, it is a digest.
abbrev pub IsOrphanRead : {D : Type 0} → Items D → Shape → ℕ → ℕ → ℕ → Type 0
IsOrphanRead {D} items s cap end complete = has_orphan s cap end complete ≡ true → (d : D)
    × IsLogged items (size s complete) d

-- what memory has at this position is what the log holds there
abbrev pub HasLogged : {D : Type 0} → Items D → ℕ → Tree D → Type 0
HasLogged {D} items p t = (d : D) → node_at t p ≡ Some d → IsLogged items p d

-- Why the orphan isn't added: by the outside, or it is no digest.
abbrev pub NotReached : {F D : Type 0} → Items D → Shape → ℕ → ℕ → ℕ → Error F → Type 0
NotReached items s cap end complete e = IsOutside e
    ⊎ ((has_orphan s cap end complete ≡ true) × (e ≡ Journal (journal.Corruption (size s complete)))
    × IsCorrupt items (size s complete))

-- a map beside a log, whose bounds are known
abbrev pub contents_of : {D : Type 0} → (D → List ℕ) → (D → Type 0) → Map → Log → Source D
contents_of spelling admits m log = record {
  pins = m;
  items = record { log = log; spelling = spelling; admits = admits };
  start = log.start;
  end = end_of log;
}

-- Why no memory is made: nothing is selected; or a peak isn't recovered; or the orphan isn't added.
abbrev pub NotOpened : {F D : Type 0} → Type 0 → Source D → Shape → ℕ → ℕ → Error F → Type 0
NotOpened known source s boundary cap e =
    NotSelected s boundary source.start source.end cap e
    ⊎ ((complete pruned : ℕ) × Selects s boundary source.start source.end cap complete pruned
    × (NotReopened known source s complete pruned e
    ⊎ (ArePeaksRecovered known source s complete pruned × NotReached source.items s cap source.end complete e)))

-- Why no tree is prepared from a map and a log under a cap: by the outside; or the stored boundary is none; or no
-- memory is made of the map and of the log that is kept.
abbrev pub NotPrepared : {F D : Type 0} → (D → List ℕ) → (D → Type 0) → Shape → Map → Log → ℕ → Error F → Type 0
NotPrepared {F} spelling admits s m log cap e = IsOutside e
    ⊎ ((stored_in m ≡ Err e)
    ⊎ ((stored : Option ℕ) × (stored_in {F = F} m ≡ Ok stored)
    × NotOpened (Unit {0}) (contents_of spelling admits m (log_kept stored log)) s (unwrap_or stored 0) cap e))

-- by which proofs tell maps apart
abbrev pub map_code : Coded Map
map_code = finmap.code (coded_list coded_ℕ) (coded_list coded_ℕ)

-- What stands ready to be opened: memory; the log, seen to its end; the map that was read, and its name; the stored
-- boundary, or 0; the complete leaves; and those at which the tree is pruned.
pub record Prepared (D : Type 0) : Type 0 where
  pub tree : Tree D
  pub log : View (Unit {0})
  pub read : Map
  pub metadata : List ℕ
  pub boundary : ℕ
  pub complete : ℕ
  pub pruned : ℕ

-- It is selected from the map that was read and the log's bounds under a cap. Memory is that of the complete leaves at
-- rest, with the peaks of those at which the tree is pruned, and of an orphan.
pub record IsReady {D : Type 0} (F : Type 0) (s : Shape) (r : Prepared D) : Type 0 where
  pub stored : Option ℕ
  pub stored_is : stored_in {F = F} r.read ≡ Ok stored
  pub boundary_is : r.boundary ≡ unwrap_or stored 0
  pub cap : ℕ
  pub few : cap ≤ 2 ^ 62
  pub selects : Selects s r.boundary r.log.start r.log.end cap r.complete r.pruned
  pub leaves : r.tree.leaves ≡ leaves_reached s cap r.log.end r.complete
  pub sound : IsSound s r.tree
  pub rested : r.tree.boundary ≡ r.complete
  pub exact : (p : ℕ) → p < size s r.complete → is_some (node_at r.tree p) ≡ rests s r.complete r.pruned p

-- Of a map and a log under a cap, a tree of so many leaves is opened that is pruned at so many: where this boundary is
-- stored, or none and it is 0, and so many leaves are complete.
pub record Opens {D : Type 0} (F : Type 0) (spelling : D → List ℕ) (admits : D → Type 0) (s : Shape) (m : Map)
    (log : Log) (cap boundary complete pruned leaves : ℕ) : Type 0 where
  pub stored : Option ℕ
  pub stored_is : stored_in {F = F} m ≡ Ok stored
  pub boundary_is : boundary ≡ unwrap_or stored 0
  pub selects : Selects s boundary (log_kept stored log).start (end_of (log_kept stored log)) cap complete pruned
  pub peaks : ArePeaksRecovered (Unit {0}) (contents_of spelling admits m (log_kept stored log)) s complete pruned
  pub orphan : IsOrphanRead (contents_of spelling admits m (log_kept stored log)).items s cap
      (end_of (log_kept stored log)) complete
  pub leaves_are : leaves ≡ leaves_reached s cap (end_of (log_kept stored log)) complete

-- Each node that memory has of the complete leaves is recovered from a map and the log that is kept: a pin before what
-- the log has. The orphan that stands behind them is the log's.
pub record Recalls {D : Type 0} (F : Type 0) (spelling : D → List ℕ) (admits : D → Type 0) (s : Shape) (m : Map)
    (log : Log) (complete : ℕ) (t : Tree D) : Type 0 where
  pub stored : Option ℕ
  pub stored_is : stored_in {F = F} m ≡ Ok stored
  pub recalled : IsRecalled (Unit {0}) (contents_of spelling admits m (log_kept stored log)) (size s complete) t
  pub orphan : HasLogged (contents_of spelling admits m (log_kept stored log)).items (size s complete) t

-- The volume holds log and map as it has them.
pub record IsPreparedIn {D : Type 0} (r : Prepared D) (state : State) : Type 0 where
  pub log : IsHeld r.log state
  pub read : state.map r.metadata ≡ r.read

-- Its log and its map have these names, and the log's blobs so many nodes.
pub record IsNamed {D : Type 0} (nodes : List ℕ) (blob : ℕ) (metadata : List ℕ) (r : Prepared D) : Type 0 where
  pub nodes_is : r.log.name ≡ nodes
  pub blob_is : r.log.blob ≡ blob
  pub metadata_is : r.metadata ≡ metadata

-- The tree is the one that stood ready: it has its leaves, its boundary, its map, and its log but for the bounds.
pub record IsOpenedFrom {D : Type 0} (r : Prepared D) (t : Full D) : Type 0 where
  pub leaves : t.tree.leaves ≡ r.tree.leaves
  pub boundary : t.boundary ≡ r.pruned
  pub log : SameButBounds r.log t.log
  pub metadata : t.metadata ≡ r.metadata
