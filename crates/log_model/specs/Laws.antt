-- Laws of good states and of what stands for them.
use Rattle.std.specs.Prelude.{◌≡◌, ℕ, ◌<◌, ◌≤◌, Bool, true, List, ◌++◌, length, Some, None, IfSome}
use Rattle.tree_shape.specs.Hashing.{Hashing}
use Rattle.tree_shape.specs.Shape.{Shape}
use Rattle.volume_base.specs.Log.{Log, end_of}
use Rattle.volume_base.specs.Volume.{Map}
use Rattle.volume_base.specs.Moments.{Image}
use Rattle.log_model.specs.Meaning.{Meaning}
use Rattle.log_model.specs.Operations.{floor_of}
use Rattle.log_model.specs.StateBatches.{UnsealedBatch, SealedBatch, Unsealed, Sealed, Gone, size_of, appended, with_hold, without_hold}
use Rattle.log_model.specs.Machine.{State, SameTest, max_leaves, batch_at, with_batch, begun, snapshot_taken, applied, committed, synced, pruned}
use Rattle.log_model.specs.AppliedSizes.{AreSizes}
use Rattle.log_model.specs.Reach.{sealed_here}
use Rattle.log_model.specs.Refusals.{seal_refusal, apply_refusal, prune_refusal}
use Rattle.log_model.specs.Good.{AnyList, IsGood, IsGoodState}
use Rattle.log_model.specs.Stored.{DatabaseNames, FullStands, CompactStands, StandsFor}
use Rattle.log_model.specs.Opening.{opens_at, opened, last_kept, last_commit, Realigned}

module _ {Op V : Type 0} (m : Meaning Op V) (admits : V → Bool) (first : Op) where
  abbrev pub Allows : V → Type 0
  Allows v = admits v ≡ true

  -- A good state of which something is durable, whatever its lists are.
  abbrev pub IsSound : State Op → Type 0
  IsSound s = IsGoodState m AnyList Allows first s

  -- Each kind of step makes a good state of a good state, where nothing refuses it.
  pub record StepsStayGood (same : SameTest Op) : Type 0 where
    pub begins : (s : State Op) → IsSound s → IsSound (begun s None s.ops)
    pub begins_on : (s : State Op) (p : ℕ) (c : SealedBatch Op) → batch_at s p ≡ Sealed c → IsSound s
        → IsSound (begun s (Some p) c.list)
    pub appends : (s : State Op) (b : ℕ) (u : UnsealedBatch Op) (op : Op) → batch_at s b ≡ Unsealed u
        → m.floor op ≡ None → IfSome (m.value op) Allows → size_of u < max_leaves
        → IsSound s → IsSound (with_batch s b (Unsealed (appended u op)))
    pub seals : (s : State Op) (b : ℕ) (u : UnsealedBatch Op) (commit : Op) (floor : ℕ) → batch_at s b ≡ Unsealed u
        → m.floor commit ≡ Some floor → IfSome (m.value commit) Allows
        → seal_refusal same m s u floor ≡ None → IsSound s
        → IsSound (with_batch s b (Sealed (sealed_here s u commit floor)))
    pub gives_up : (s : State Op) (b : ℕ) (u : UnsealedBatch Op) → batch_at s b ≡ Unsealed u → IsSound s
        → IsSound (with_batch s b Gone)
    pub holds : (s : State Op) (b : ℕ) (c : SealedBatch Op) → batch_at s b ≡ Sealed c → IsSound s
        → IsSound (with_batch s b (Sealed (with_hold c)))
    pub releases : (s : State Op) (b : ℕ) (c : SealedBatch Op) → batch_at s b ≡ Sealed c → IsSound s
        → IsSound (with_batch s b (Sealed (without_hold c)))
    pub takes_snapshot : (s : State Op) → IsSound s → IsSound (snapshot_taken s (floor_of m s.ops))
    pub applies : (s : State Op) (b : ℕ) (c : SealedBatch Op) → batch_at s b ≡ Sealed c → apply_refusal same s c ≡ None
        → IsSound s → IsSound (applied s c)
    pub commits : (s : State Op) → IsSound s → IsSound (committed s)
    pub syncs : (s : State Op) → IsSound s → IsSound (synced s)
    pub prunes : (log_blob witness_blob : ℕ) (s : State Op) (l : ℕ) → prune_refusal m s l ≡ None → IsSound s
        → IsSound (pruned log_blob witness_blob s l)

module _ {D Op V : Type 0} (s : Shape) (h : Hashing D) (spelling : D → List ℕ) (m : Meaning Op V) where
  -- An image that stands for a good state is opened at or past what was durable, in a good state of which something is durable;
  -- the compact database, whose cap is the last commit of the operation log, opens there too.
  pub record OpensGood (admits : V → Bool) (first : Op) (names : DatabaseNames) (state : State Op)
      (image : Image) : Type 0 where
    pub past : state.durable ≤ opens_at names state image
    pub good : IsSound m admits first (opened names state image)
    pub cap : opens_at names state image ≡ last_kept (last_commit m (end_of (image.log names.log)) state.ops)
        (image.log names.witness) 1 0 state.sizes

  abbrev pub OpeningsAreGood : (V → Bool) → Op → Type 0
  OpeningsAreGood admits first =
      (names : DatabaseNames) (state : State Op) (image : Image) → IsGood m AnyList (Allows m admits first) first state
      → StandsFor s h spelling m names state image → OpensGood admits first names state image

  -- So both databases open at one size, one after another.
  abbrev pub OpeningsRealign : (V → Bool) → Op → Type 0
  OpeningsRealign admits first =
      (names : DatabaseNames) (state : State Op) (image : Image)
      → IsGoodState m AnyList (Allows m admits first) first state → StandsFor s h spelling m names state image →
      (let f : ℕ = last_commit m (end_of (image.log names.log)) state.ops in
      Realigned m names state image f (last_kept f (image.log names.witness) 1 0 state.sizes))

  -- The full database's part stands still where more may be pruned, where less is durable, and for a longer list.
  abbrev pub FullStandsWider : Type 0
  FullStandsWider =
      (ops : List Op) (prune prune' durable durable' node_durable node_durable' : ℕ) (log node_log : Log)
      (metadata : Map) → prune ≤ prune' → durable' ≤ durable → node_durable' ≤ node_durable
      → FullStands s h spelling m ops prune durable node_durable log node_log metadata
      → FullStands s h spelling m ops prune' durable' node_durable' log node_log metadata

  abbrev pub FullStandsLonger : Type 0
  FullStandsLonger = (ops more : List Op) (prune durable node_durable : ℕ) (log node_log : Log) (metadata : Map)
      → FullStands s h spelling m ops prune durable node_durable log node_log metadata
      → FullStands s h spelling m (ops ++ more) prune durable node_durable log node_log metadata

  -- So does the compact one's, whose longer list has all applied sizes of the one before.
  abbrev pub CompactStandsWider : Type 0
  CompactStandsWider =
      (ops : List Op) (sizes : List ℕ) (prune prune' durable durable' : ℕ) (log : Log) → prune ≤ prune'
      → durable' ≤ durable
      → CompactStands s h spelling m ops sizes prune durable log
      → CompactStands s h spelling m ops sizes prune' durable' log

  abbrev pub CompactStandsLonger : Type 0
  CompactStandsLonger =
      (ops more : List Op) (sizes later : List ℕ) (prune durable : ℕ) (log : Log) → AreSizes (length ops) sizes
      → durable ≤ length ops
      → CompactStands s h spelling m ops sizes prune durable log
      → CompactStands s h spelling m (ops ++ more) (sizes ++ later) prune durable log
