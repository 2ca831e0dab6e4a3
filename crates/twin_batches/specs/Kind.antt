-- What a database of the run and its batches stand for.
use Rattle.std.specs.Prelude.{◌≡◌, ℕ, ◌+◌, max, List, [], length, Option}
use Rattle.volume_base.specs.Moments.{Image}
use Rattle.volume_base.specs.Names.{Names, EachOf}
use Rattle.volume_base.specs.Volume as volume
use Rattle.log_model.specs.Machine.{State, by_blobs, sizes_with}
use Rattle.log_model.specs.AppliedSizes.{first_at_least}
use Rattle.log_model.specs.Operations.{floor_of}
use Rattle.chain_core.specs.Chains.{Sealing}
use Rattle.chain_core.specs.declared.bounds.Bounds.{Bounds}
use Rattle.chain_core.specs.declared.commitment.Commitment.{Commitment}
use Rattle.tree_shape.specs.declared.mmr.Mmr.{Mmr}
use Rattle.tree_shape.specs.declared.sha256.Sha256Digest.{Sha256Digest}
use Rattle.list_machine.specs.Config.{Config}
use Rattle.list_machine.specs.Operation.{Operation, meaning}
use Rattle.list_machine.specs.Commitments.{commitment_of, AreBounds}

-- What a database may keep of a state: the list, the sizes at which it stood, from where on its operations and its
-- witnesses are kept, and of how many operations the tree's nodes are kept.
pub record Kept : Type 0 where
  pub ops : List Operation
  pub sizes : List ℕ
  pub start : ℕ
  pub wstart : ℕ
  pub leaves : ℕ

abbrev pub kept_of : State Operation → Kept
kept_of s = record {
  ops = s.ops;
  sizes = s.sizes;
  start = s.start;
  wstart = s.wstart;
  leaves = s.node_durable;
}

-- The same with another list, whose length is one more size where it is longer.
abbrev pub with_list : Kept → List Operation → Kept
with_list kept list = record kept { ops = list; sizes = sizes_with kept.sizes (length kept.ops) (length list) }

-- The same, with the nodes of all operations.
abbrev pub kept_synced : Kept → Kept
kept_synced kept = record kept { leaves = length kept.ops }

-- So it is, pruned to a location under a configuration.
abbrev pub kept_pruned : Config → Kept → ℕ → Kept
kept_pruned c kept l = record (kept_synced kept) {
  start = max kept.start (by_blobs c.log_blob l);
  wstart = max kept.wstart (by_blobs c.witness_blob (first_at_least l kept.sizes));
}

-- A database is, with these contents of a volume, of what it keeps, and has a state and a floor. A sealed batch is of a
-- list, and carries its states. An unsealed one stands on a list, has appends behind it, and names its parent in the
-- pool; its chain has marks at these sizes.
pub record Kind (Db Sealed Unsealed : Type 0) : Type 1 where
  pub is_of : Kept → Image → Db → Type 0
  pub is_sealed : List Operation → Sealed → Type 0
  pub is_unsealed : List Operation → Unsealed → Type 0
  pub is_marked : List ℕ → Unsealed → Type 0
  pub state : Db → Commitment Mmr Sha256Digest
  pub floor : Db → ℕ
  pub bounds : Sealed → Bounds Mmr Sha256Digest
  pub base : Unsealed → Commitment Mmr Sha256Digest
  pub pending : Unsealed → List Operation
  pub parent : Unsealed → Option ℕ
  -- it was opened under a configuration: its blobs and the greatest length of its values are the configuration's
  pub is_under : Config → Db → Type 0
  -- it keeps no failed sync
  pub is_sound : Db → Type 0
  -- a crash now leaves its operations as they are; and what is kept with them
  pub is_durable : Db → volume.State → Type 0
  pub is_synced : Db → volume.State → Type 0
  -- the logs and maps that it keeps on a volume
  pub names : Db → Names
  -- what an image has of these stands for what a crash may leave of a state
  pub stands : State Operation → Db → Image → Type 0
  -- the states and the floor are the lists'
  pub state_is : (kept : Kept) (image : Image) (db : Db) → is_of kept image db → state db ≡ commitment_of kept.ops
  pub floor_is : (kept : Kept) (image : Image) (db : Db) → is_of kept image db → floor db ≡ floor_of meaning kept.ops
  pub bounded : (list : List Operation) (x : Sealed) → is_sealed list x → AreBounds list (bounds x)
  pub base_is : (list : List Operation) (u : Unsealed) → is_unsealed list u → base u ≡ commitment_of list
  -- what a volume holds under other names is free
  pub framed : (kept : Kept) (image other : Image) (db : Db)
      → EachOf (λ name. other.log name ≡ image.log name) (names db).logs
      → EachOf (λ name. other.map name ≡ image.map name) (names db).maps
      → is_of kept image db → is_of kept other db

module _ {Db S U : Type 0} (k : Kind Db S U) where
  -- How many operations an unsealed batch has, with its appends.
  abbrev pub size_of : U → ℕ
  size_of u = (k.base u).size + length (k.pending u)

  -- What decides whether it is sealed.
  abbrev pub sealing_of : U → Sealing Mmr Sha256Digest
  sealing_of u = record { parent = k.parent u; base = k.base u; size = size_of u }

  -- The states of a batch of the database's own state, without operations of its own.
  abbrev pub snapshot_of : Db → Bounds Mmr Sha256Digest
  snapshot_of db = record {
    base = k.state db;
    db = k.state db;
    tip = k.state db;
    ancestors = [];
    inactivity_floor = k.floor db;
  }
