-- What a flush and a sync leave of a tree, and what a crash leaves of its log and its map.
use Rattle.std.specs.Prelude.{◌≡◌, ◌⊎◌, ℕ, ◌+◌, ◌-◌, ◌<◌, ◌≤◌, Bool, List, length, map, slice_get, Some, None, Result, Ok, Err}
use Rattle.journal_base.specs.declared.ticket.SyncTicket.{SyncTicket}
use Rattle.journal_base.specs.declared.ticket.SyncTicket.TheVariants.{Done, Failed}
use Rattle.journal_base.specs.View.{SameButBounds, after_sync}
use Rattle.tree_shape.specs.Hashing.{Hashing}
use Rattle.tree_core.specs.Tree.{Tree, node_at}
use Rattle.tree_shape.specs.Shape.{Shape, made}
use Rattle.tree_store.specs.Stored.{TreeStands}
use Rattle.tree_store.specs.Stores.{IsOutside}
use Rattle.tree_store.specs.declared.error.Error.{Error}
use Rattle.tree_store.specs.declared.error.Error.TheVariants.{Volume, MissingNode, Journal}
use Rattle.volume_base.specs.Log.{Log, appended}
use Rattle.volume_base.specs.Moments.{PairHas, PairKeeps}
use Rattle.volume_base.specs.Volume.{State}
use Rattle.volume_base.specs.declared.error.JournalError.TheVariants as journal
use Rattle.merkle_full.specs.Full.{Full}

-- It has the leaves, the boundary and the map of the other, and its log but for the bounds.
pub record IsSameTree {D : Type 0} (t u : Full D) : Type 0 where
  pub leaves : u.tree.leaves ≡ t.tree.leaves
  pub boundary : u.boundary ≡ t.boundary
  pub log : SameButBounds t.log u.log
  pub metadata : u.metadata ≡ t.metadata

-- the nodes of memory from this position to its end
pub record IsTail {D : Type 0} (s : Shape) (t : Tree D) (from : ℕ) (tail : List D) : Type 0 where
  pub counted : length tail ≡ length (made s t.leaves) - from
  pub nodes : (i : ℕ) (d : D) → slice_get tail i ≡ Some d → node_at t (from + i) ≡ Some d

-- The log is the other, and behind it stand the nodes of memory from this position to its end.
pub record IsFilled {D : Type 0} (s : Shape) (spelling : D → List ℕ) (t : Tree D) (from : ℕ)
    (old new : Log) : Type 0 where
  pub more : List D
  pub counted : length more ≡ length (made s t.leaves) - from
  pub nodes : (i : ℕ) (d : D) → slice_get more i ≡ Some d → node_at t (from + i) ≡ Some d
  pub log : new ≡ appended old (map spelling more)

-- the same tree after a started sync
abbrev pub after_start : {D : Type 0} → Full D → Bool → Full D
after_start t failed = record {
  tree = t.tree;
  boundary = t.boundary;
  log = after_sync t.log failed;
  metadata = t.metadata;
}

-- Whatever a crash now leaves of its log, beside whatever it leaves of its map, stands for the list of leaf digests, of
-- which so many are durable, pruned at no boundary past `top`.
abbrev pub AllStand : {D : Type 0} → Shape → Hashing D → (D → List ℕ) → List D → ℕ → ℕ → Full D → State → Type 0
AllStand s h spelling all durable top t state = PairHas state t.log.name t.metadata
    (TreeStands s h spelling all durable top)

-- and so it does at each moment from the one to the other
abbrev pub AllKeepStanding : {D : Type 0} → Shape → Hashing D → (D → List ℕ) → List D → ℕ → ℕ → Full D → State → State
    → Type 0
AllKeepStanding s h spelling all durable top t old new = PairKeeps t.log.name t.metadata
    (TreeStands s h spelling all durable top) old new

-- what the sync itself has come to
abbrev pub sync_of : {F : Type 0} → SyncTicket → Result (Unit {0}) (Error F)
sync_of Done = Ok tt
sync_of Failed = Err Volume

-- what a call that answers a ticket has come to: beside a failed ticket it is the volume's failure
abbrev pub outcome : {F T : Type 0} → Result (T × SyncTicket) (Error F) → Result (Unit {0}) (Error F)
outcome (Ok made) = sync_of made.1
outcome (Err error) = Err error

-- why a flush fails, whatever the volume holds: by the outside; for a node that the log lacks and memory doesn't have;
-- or because the log can't have so many
abbrev pub IsOfFlush : {F D : Type 0} → Shape → Full D → Error F → Type 0
IsOfFlush s t e = IsOutside e
    ⊎ (((p : ℕ) × (t.log.end ≤ p) × (p < length (made s t.tree.leaves)) × (node_at t.tree p ≡ None)
    × (e ≡ MissingNode p))
    ⊎ (e ≡ Journal journal.SizeOverflow))
