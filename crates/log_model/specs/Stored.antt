-- What the logs and the map of a volume hold of a list of operations and its applied sizes, and of a state.
use Rattle.std.specs.Prelude.{◌≡◌, ℕ, zero, suc, ◌+◌, List, map}
use Rattle.std.specs.FinMap as finmap
use Rattle.volume_base.specs.Log.{Log, no_log}
use Rattle.volume_base.specs.Volume.{Map}
use Rattle.volume_base.specs.Bounds.{IsPartOf}
use Rattle.volume_base.specs.Moments.{Image}
use Rattle.tree_shape.specs.Hashing.{Hashing}
use Rattle.tree_shape.specs.Shape.{Shape}
use Rattle.tree_store.specs.Stored as tree
use Rattle.log_model.specs.Meaning.{Meaning}
use Rattle.log_model.specs.Operations.{leaves_from}
use Rattle.log_model.specs.Machine.{State}
use Rattle.log_model.specs.AppliedSizes.{first_at_least}
use Rattle.log_model.specs.Witness.{witness_text}

-- The names of the operation log, the node log, the map of the node log and the witness log.
pub record DatabaseNames : Type 0 where
  pub log : List ℕ
  pub nodes : List ℕ
  pub metadata : List ℕ
  pub witness : List ℕ

-- How many witnesses are there where this size is durable: those up to its own; none where nothing is.
abbrev pub durable_witnesses : List ℕ → ℕ → ℕ
durable_witnesses sizes zero = 0
durable_witnesses sizes (suc durable) = first_at_least (suc durable) sizes + 1

module _ {D Op V : Type 0} (s : Shape) (h : Hashing D) (spelling : D → List ℕ) (m : Meaning Op V) where
  -- The operation log has operations of this list, from a start that is at most `prune`, and at least the durable ones; node log and map
  -- stand for its leaves, under a boundary that is at most the operation log's start.
  pub record FullStands (ops : List Op) (prune durable node_durable : ℕ) (log node_log : Log)
      (metadata : Map) : Type 0 where
    pub operations : IsPartOf (map m.encoding ops) prune durable log
    pub tree : tree.TreeStands s h spelling (leaves_from s h m 0 ops) node_durable log.start node_log metadata

  -- The witness log has witnesses of this list at these sizes, at least the durable ones, and all that aren't pruned.
  abbrev pub CompactStands : List Op → List ℕ → ℕ → ℕ → Log → Type 0
  CompactStands ops sizes prune durable log =
      IsPartOf (map (witness_text s h m spelling ops) sizes) (first_at_least prune sizes)
      (durable_witnesses sizes durable) log

  -- The logs and the map of these names stand for a state: the full database's part, and the compact one's.
  pub record StandsFor (names : DatabaseNames) (state : State Op) (image : Image) : Type 0 where
    pub full : FullStands state.ops state.prune state.durable state.node_durable (image.log names.log)
        (image.log names.nodes) (image.map names.metadata)
    pub compact : CompactStands state.ops state.sizes state.prune state.durable (image.log names.witness)

-- The logs and the map of these names hold nothing and begin at 0.
pub record IsEmpty (names : DatabaseNames) (image : Image) : Type 0 where
  pub log : image.log names.log ≡ no_log
  pub nodes : image.log names.nodes ≡ no_log
  pub metadata : image.map names.metadata ≡ finmap.empty
  pub witness : image.log names.witness ≡ no_log
