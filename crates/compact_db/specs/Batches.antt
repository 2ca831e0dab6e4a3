-- Batches of a compact database, as contracts see them, and the lists that they are of.
use Rattle.std.specs.Prelude.{◌≡◌, ℕ, ◌+◌, ◌-◌, ◌^◌, ◌≤◌, List, [], ◌∷◌, ◌++◌, length, map, slice_get, Option, Some}
use Rattle.std.specs.List.{AllByRecursion}
use Rattle.tree_shape.specs.Hashing.{Hashing}
use Rattle.tree_shape.specs.Shape.{Shape}
use Rattle.tree_core.specs.Batches.{Sealed, Unsealed, IsSealedOf, IsUnsealedOf}
use Rattle.tree_core.specs.Links.{ChainSegment}
use Rattle.log_model.specs.Meaning.{Meaning}
use Rattle.log_model.specs.Operations.{leaves_from}
use Rattle.log_model.specs.Good.{EndsWithCommit}
use Rattle.chain_core.specs.Marks.{marks_of}
use Rattle.chain_core.specs.Reached.{items_at, linked_item}
use Rattle.chain_core.specs.Slots.{slot_at, IsReach}
use Rattle.chain_core.specs.States.{commitment_of, IsStateIn, IsBatchOf}
use Rattle.chain_core.specs.declared.bounds.Bounds.{Bounds}
use Rattle.chain_core.specs.declared.commitment.Commitment.{Commitment}
use Rattle.chain_core.specs.declared.pool.HeldBatch.{HeldBatch}

-- A batch that still collects: what it has of the tree, the operations so far, the state on which it stands, and its
-- parent's number.
pub record UnmerkleizedView (F D Op : Type 0) : Type 0 where
  pub tree : Unsealed D
  pub pending : List Op
  pub base : Commitment F D
  pub parent : Option ℕ

-- A sealed batch: its part of the tree, its own operations, and its states.
pub record MerkleizedView (F D Op : Type 0) : Type 0 where
  pub tree : Sealed D
  pub operations : List Op
  pub bounds : Bounds F D

-- No leaf stands behind the state, and with what is collected there are no more operations than a tree has leaves.
pub record IsSoundUnmerkleized {D : Type 0} (tree : Unsealed D) (base count : ℕ) : Type 0 where
  pub none : tree.digests ≡ []
  pub base_is : tree.base ≡ base
  pub few : base + count ≤ 2 ^ 62

-- These bytes are the spelling of the last of these operations, where there are any.
abbrev pub AreLastBytes : {Op : Type 0} → (Op → List ℕ) → List Op → List ℕ → Type 0
AreLastBytes spelling ops bytes = (op : _) → slice_get ops (length ops - 1) ≡ Some op → bytes ≡ spelling op

-- The tree ends at the tip, behind the batch's own operations; a batch without any is one of a database's own state;
-- and the bytes are those of the last operation.
pub record IsSoundMerkleized {F D Op : Type 0} (spelling : Op → List ℕ) (tree : Sealed D) (operations : List Op)
    (commit_bytes : List ℕ) (bounds : Bounds F D) : Type 0 where
  pub tip : tree.leaves ≡ bounds.tip.size
  pub own : bounds.tip.size ≡ bounds.base.size + length operations
  pub snapshot_db : length operations ≡ 0 → bounds.db ≡ bounds.tip
  pub snapshot_ancestors : length operations ≡ 0 → bounds.ancestors ≡ []
  pub bytes : AreLastBytes spelling operations commit_bytes

abbrev pub bounds_of : {F D Op : Type 0} → MerkleizedView F D Op → Bounds F D
bounds_of b = b.bounds

-- The leaves before each of these segments.
abbrev pub link_marks : {D : Type 0} → List (ChainSegment D) → List ℕ
link_marks links = map (λ g. g.leaves) links

-- Its tree has a segment behind each state of its chain.
abbrev pub HasMarks : {F D Op : Type 0} → MerkleizedView F D Op → Type 0
HasMarks b = link_marks b.tree.links ≡ marks_of b.bounds

module _ {F D Op V : Type 0} (s : Shape) (h : Hashing D) (m : Meaning Op V) where
  -- The batch goes on from this list, as its tree does.
  pub record IsUnmerkleizedOf (list : List Op) (b : UnmerkleizedView F D Op) : Type 0 where
    pub base : b.base ≡ commitment_of s h m list
    pub tree : IsUnsealedOf s h (leaves_from s h m 0 list) b.tree

  -- The sealed batch is of this list, which a commit ends, and so is its tree.
  pub record IsMerkleizedOf (list : List Op) (b : MerkleizedView F D Op) : Type 0 where
    pub ends : EndsWithCommit m list
    pub few : length list ≤ 2 ^ 62
    pub batch : IsBatchOf s h m list b.operations b.bounds
    pub tree : IsSealedOf s h (leaves_from s h m 0 list) b.tree

  -- The base and the tip are states of fronts of a list.
  abbrev pub StandsIn : List Op → MerkleizedView F D Op → Type 0
  StandsIn list b = IsStateIn s h m list b.bounds.base × IsStateIn s h m list b.bounds.tip

  -- Of a parent that is alive the chain began at a state of a front of this list, and base and tip of each batch that
  -- is reached from it are such states.
  pub record IsPoolOf (pool : List (Option (HeldBatch (MerkleizedView F D Op)))) (parent : Option ℕ)
      (list : List Op) : Type 0 where
    pub boundary : (b : MerkleizedView F D Op) → linked_item pool parent ≡ Some b → IsStateIn s h m list b.bounds.db
    pub reached : (ids : List ℕ) → IsReach (slot_at pool) parent ids →
        AllByRecursion (StandsIn list) (items_at pool ids)

  -- The batch is of a list with these operations and one commit behind it, of this metadata and floor.
  pub record IsSealedBy (list pending : List Op) (metadata : Option V) (floor : ℕ)
      (b : MerkleizedView F D Op) : Type 0 where
    pub commit : Op
    pub floored : m.floor commit ≡ Some floor
    pub valued : m.value commit ≡ metadata
    pub own : b.operations ≡ pending ++ commit ∷ []
    pub list_is : IsMerkleizedOf (list ++ (pending ++ commit ∷ [])) b
