-- Batches: lists of operations that are made beside the log, to be applied to it.
use Rattle.std.specs.Prelude.{ℕ, ◌+◌, ◌-◌, Bool, nat_lt, List, [], ◌∷◌, ◌++◌, length, Option, None}

-- A batch that takes appends: the number of its parent, the list on which it stands, the length of that list, and the appends since.
pub record UnsealedBatch (Op : Type 0) : Type 0 where
  pub parent : Option ℕ
  pub list : List Op
  pub base : ℕ
  pub pending : List Op

-- A batch that a commit has ended: the number of its parent; its whole list; lengths of that list, which are the base on which it was made, its boundary, and the tips of its ancestors, the newest first; the floor of its commit; and how often the caller holds it. It may be applied to a log that is its list up to its boundary or a tip.
pub record SealedBatch (Op : Type 0) : Type 0 where
  pub parent : Option ℕ
  pub list : List Op
  pub base : ℕ
  pub boundary : ℕ
  pub tips : List ℕ
  pub floor : ℕ
  pub holds : ℕ

-- A batch by its phase.
pub data Batch (Op : Type 0) : Type 0 where
  Unsealed : UnsealedBatch Op → Batch Op
  Sealed : SealedBatch Op → Batch Op
  Gone : Batch Op

-- A new batch on a list, which is its parent's where it has one.
abbrev pub begun_on : {Op : Type 0} → Option ℕ → List Op → UnsealedBatch Op
begun_on parent list = record { parent = parent; list = list; base = length list; pending = [] }

-- How many operations a batch has, with its appends.
abbrev pub size_of : {Op : Type 0} → UnsealedBatch Op → ℕ
size_of u = u.base + length u.pending

-- The batch with one more append.
abbrev pub appended : {Op : Type 0} → UnsealedBatch Op → Op → UnsealedBatch Op
appended u op = record u { pending = u.pending ++ (op ∷ []) }

-- The batch whose list is ended by the appends and a commit of this floor, with this boundary and these tips. The caller holds it once.
abbrev pub sealed : {Op : Type 0} → UnsealedBatch Op → ℕ → List ℕ → Op → ℕ → SealedBatch Op
sealed u boundary tips commit floor = record {
  parent = u.parent;
  list = u.list ++ (u.pending ++ (commit ∷ []));
  base = u.base;
  boundary = boundary;
  tips = tips;
  floor = floor;
  holds = 1;
}

-- A sealed batch of a whole list, to which nothing was added. The caller holds it once.
abbrev pub snapshot_of : {Op : Type 0} → List Op → ℕ → SealedBatch Op
snapshot_of list floor =
    record {
      parent = None;
      list = list;
      base = length list;
      boundary = length list;
      tips = [];
      floor = floor;
      holds = 1;
    }

-- Whether the caller holds it.
abbrev pub is_held : {Op : Type 0} → SealedBatch Op → Bool
is_held c = nat_lt 0 c.holds

-- The batch, held once more, and once less. With no hold left it keeps all else.
abbrev pub with_hold : {Op : Type 0} → SealedBatch Op → SealedBatch Op
with_hold c = record c { holds = c.holds + 1 }

abbrev pub without_hold : {Op : Type 0} → SealedBatch Op → SealedBatch Op
without_hold c = record c { holds = c.holds - 1 }
