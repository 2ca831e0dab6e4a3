-- Batches of a database, as contracts see them, and the lists that they are of.
use Rattle.std.specs.Prelude.{◌≡◌, ℕ, ◌+◌, ◌-◌, ◌^◌, ◌≤◌, List, [], length, map, Option, slice_index_or}
use Rattle.tree_core.specs.Batches.{leaf_count}
use Rattle.tree_core.specs.Links.{ChainSegment}
use Rattle.tree_shape.specs.Hashing.{Hashing}
use Rattle.tree_shape.specs.Shape.{Shape}
use Rattle.tree_shape.specs.declared.bagging.Bagging.TheVariants.{ForwardFold}
use Rattle.auth_journal.specs.Batched.{SealedItems, UnsealedItems, own_length, IsSealedOfItems, IsUnsealedOfItems}
use Rattle.log_model.specs.Good.{EndsWithCommit}
use Rattle.log_model.specs.Meaning.{Meaning}
use Rattle.chain_core.specs.Chains.{Sealing}
use Rattle.chain_core.specs.Marks.{marks_of}
use Rattle.chain_core.specs.States.{commitment_of, IsBatchOf}
use Rattle.chain_core.specs.declared.bounds.Bounds.{Bounds}
use Rattle.chain_core.specs.declared.commitment.Commitment.{Commitment}

-- A batch that still collects: its operations with what it has of the tree, the state on which it stands, and its
-- parent's number.
pub record UnmerkleizedView (F D Op : Type 0) : Type 0 where
  pub tree : UnsealedItems D Op
  pub base : Commitment F D
  pub parent : Option ℕ

-- A sealed batch: its operations with its part of the tree, and its states.
pub record MerkleizedView (F D Op : Type 0) : Type 0 where
  pub tree : SealedItems D Op
  pub bounds : Bounds F D

-- The operations are the leaves behind the state, and there are no more than a tree has leaves; and each segment has
-- its list of operations.
pub record IsSoundUnmerkleized {D Op : Type 0} (tree : UnsealedItems D Op) (base : ℕ) : Type 0 where
  pub count : leaf_count tree.nodes ≡ base + length tree.items
  pub few : base + length tree.items ≤ 2 ^ 62
  pub folded : tree.bagging ≡ ForwardFold
  pub begins : tree.nodes.base ≡ base
  pub counted : length tree.kept ≡ length tree.nodes.links

-- The tree ends at the tip, behind the batch's own operations, and each of its segments has its list of operations;
-- and a batch without any is one of a database's own state.
pub record IsSoundMerkleized {F D Op : Type 0} (tree : SealedItems D Op) (bounds : Bounds F D) : Type 0 where
  pub tip : tree.nodes.leaves ≡ bounds.tip.size
  pub few : bounds.tip.size ≤ 2 ^ 62
  pub own : bounds.tip.size ≡ bounds.base.size + own_length tree
  pub folded : tree.bagging ≡ ForwardFold
  pub counted : length tree.items ≡ length tree.nodes.links
  pub snapshot_db : own_length tree ≡ 0 → bounds.db ≡ bounds.tip
  pub snapshot_ancestors : own_length tree ≡ 0 → bounds.ancestors ≡ []

-- The batch's own operations.
abbrev pub own_items : {D Op : Type 0} → SealedItems D Op → List Op
own_items tree = slice_index_or tree.items (length tree.items - 1) []

-- The leaves before each of these segments.
abbrev pub link_marks : {D : Type 0} → List (ChainSegment D) → List ℕ
link_marks links = map (λ g. g.leaves) links

-- Its tree has a segment behind each state of its chain.
abbrev pub HasMarks : {F D Op : Type 0} → MerkleizedView F D Op → Type 0
HasMarks b = link_marks b.tree.nodes.links ≡ marks_of b.bounds

module _ {F D Op : Type 0} where
  abbrev pub bounds_of : MerkleizedView F D Op → Bounds F D
  bounds_of b = b.bounds

  -- What decides whether it is sealed.
  abbrev pub sealing_of : UnmerkleizedView F D Op → Sealing F D
  sealing_of b = record { parent = b.parent; base = b.base; size = b.base.size + length b.tree.items }

module _ {F D Op V : Type 0} (s : Shape) (h : Hashing D) (m : Meaning Op V) (spelling : Op → List ℕ) where
  -- The batch goes on from this list, and so does its tree.
  pub record IsUnmerkleizedOf (list : List Op) (b : UnmerkleizedView F D Op) : Type 0 where
    pub base : b.base ≡ commitment_of s h m list
    pub tree : IsUnsealedOfItems s h spelling list b.tree

  -- The sealed batch is of this list, which a commit ends, and so is its tree.
  pub record IsMerkleizedOf (list : List Op) (b : MerkleizedView F D Op) : Type 0 where
    pub ends : EndsWithCommit m list
    pub few : length list ≤ 2 ^ 62
    pub batch : IsBatchOf s h m list (own_items b.tree) b.bounds
    pub tree : IsSealedOfItems s h spelling list b.tree
