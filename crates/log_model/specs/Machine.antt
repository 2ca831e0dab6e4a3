-- The list machine's state, and what each kind of step makes of it.
use Rattle.std.specs.Prelude.{ℕ, ◌*◌, ◌/◌, ◌^◌, max, nat_lt, Bool, List, [], ◌∷◌, ◌++◌, length, take, slice_index_or, slice_set, Option, if◌then◌else◌}
use Rattle.std.specs.List.{flat_map}
use Rattle.std.specs.Cmp.Lexicographic.{pointwise}
use Rattle.log_model.specs.AppliedSizes.{first_at_least}
use Rattle.log_model.specs.StateBatches.{Batch, Unsealed, Sealed, Gone, SealedBatch, begun_on, snapshot_of}

pub record State (Op : Type 0) : Type 0 where
  -- the list of operations
  pub ops : List Op
  -- the applied sizes, strictly rising
  pub sizes : List ℕ
  -- sizes that no crash undoes: of operations and witnesses, and of nodes
  pub durable : ℕ
  pub node_durable : ℕ
  -- the greatest location to which it was pruned
  pub prune : ℕ
  -- where the operation log begins, and where the witness log does
  pub start : ℕ
  pub wstart : ℕ
  -- the batches by number
  pub batches : List (Batch Op)

-- The greatest length of a list.
abbrev pub max_leaves : ℕ
max_leaves = 2 ^ 62

-- The state of a fresh volume: its first commit is there, and nothing is durable.
abbrev pub fresh : {Op : Type 0} → Op → State Op
fresh commit =
    record {
      ops = commit ∷ [];
      sizes = 1 ∷ [];
      durable = 0;
      node_durable = 0;
      prune = 0;
      start = 0;
      wstart = 0;
      batches = [];
    }

-- Batch b. It is gone where no such number was drawn.
abbrev pub batch_at : {Op : Type 0} → State Op → ℕ → Batch Op
batch_at s b = slice_index_or s.batches b Gone

-- The state with another batch b.
abbrev pub with_batch : {Op : Type 0} → State Op → ℕ → Batch Op → State Op
with_batch s b batch = record s { batches = slice_set s.batches b batch }

-- The state with one more batch, under the next number.
abbrev pub with_new : {Op : Type 0} → State Op → Batch Op → State Op
with_new s batch = record s { batches = s.batches ++ (batch ∷ []) }

-- The state with a new batch on the list of its parent, or on the present list.
abbrev pub begun : {Op : Type 0} → State Op → Option ℕ → List Op → State Op
begun s parent list = with_new s (Unsealed (begun_on parent list))

-- The state with a sealed batch of the present list, whose floor is this.
abbrev pub snapshot_taken : {Op : Type 0} → State Op → ℕ → State Op
snapshot_taken s floor = with_new s (Sealed (snapshot_of s.ops floor))

-- The applied sizes with one more, where the list is longer than before.
abbrev pub sizes_with : List ℕ → ℕ → ℕ → List ℕ
sizes_with sizes before now = if nat_lt before now then sizes ++ (now ∷ []) else sizes

-- The state whose list is the batch's. Its length is applied, where it is longer than before.
abbrev pub applied : {Op : Type 0} → State Op → SealedBatch Op → State Op
applied s batch = record s { ops = batch.list; sizes = sizes_with s.sizes (length s.ops) (length batch.list) }

-- The state whose operations and witnesses are durable; and whose nodes are so too.
abbrev pub committed : {Op : Type 0} → State Op → State Op
committed s = record s { durable = length s.ops }

abbrev pub synced : {Op : Type 0} → State Op → State Op
synced s = record s { durable = length s.ops; node_durable = length s.ops }

-- The greatest multiple of a blob's items that is at most this.
abbrev pub by_blobs : ℕ → ℕ → ℕ
by_blobs blob n = blob * (n / blob)

-- The state, synced and then pruned to location l: what lies below is given up by whole blobs, each of so many operations or witnesses.
abbrev pub pruned : {Op : Type 0} → ℕ → ℕ → State Op → ℕ → State Op
pruned log_blob witness_blob s l = record (synced s) {
  prune = max s.prune l;
  start = max s.start (by_blobs log_blob l);
  wstart = max s.wstart (by_blobs witness_blob (first_at_least l s.sizes));
}

-- The list of a sealed batch.
abbrev pub sealed_list : {Op : Type 0} → Batch Op → List (List Op)
sealed_list (Unsealed u) = []
sealed_list (Sealed c) = c.list ∷ []
sealed_list Gone = []

-- The lists of a state: the present one, and those of its sealed batches.
abbrev pub lists_here : {Op : Type 0} → State Op → List (List Op)
lists_here s = s.ops ∷ flat_map sealed_list s.batches

-- A test of whether two lists are one.
abbrev pub SameTest : Type 0 → Type 0
SameTest Op = List Op → List Op → Bool

-- Operation by operation, by a test of whether two are one.
abbrev pub same_operations : {Op : Type 0} → (Op → Op → Bool) → SameTest Op
same_operations same = pointwise same

-- Whether the present list is the first n of a batch's list.
abbrev pub stands_at : {Op : Type 0} → SameTest Op → State Op → List Op → ℕ → Bool
stands_at same s list n = same s.ops (take n list)
