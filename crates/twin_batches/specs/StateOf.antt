-- What a side of the run keeps in memory, and what it means.
use Rattle.std.specs.Prelude.{◌≡◌, ℕ, ◌+◌, ◌^◌, ◌<◌, ◌≤◌, nat_lt, List, ◌∷◌, length, slice_index_or, Option, Some, None, Contains, if◌then◌else◌}
use Rattle.std.specs.List.{count_by}
use Rattle.volume_base.specs.Moments.{Image}
use Rattle.log_model.specs.StateBatches as batches
use Rattle.log_model.specs.Good.{AnyList}
use Rattle.log_model.specs.Machine.{State}
use Rattle.log_model.specs.Reach.{is_child, link_bound}
use Rattle.chain_core.specs.MarkedPool.{AreMarked}
use Rattle.chain_core.specs.Marks.{IsMarkedOn}
use Rattle.chain_core.specs.Reached.{item_at}
use Rattle.chain_core.specs.Slots.{slot_at, holds_of}
use Rattle.chain_core.specs.States.{sizes}
use Rattle.chain_core.specs.declared.pool.HeldBatch.{HeldBatch}
use Rattle.command_text.specs.declared.command.Answer.{Answer}
use Rattle.command_text.specs.declared.command.Reply.{Reply}
use Rattle.list_machine.specs.Operation.{Operation}
use Rattle.list_machine.specs.Step.{Outcome, step, reply}
use Rattle.list_machine.specs.Config.{Config}
use Rattle.list_machine.specs.GoodRuns.{IsGoodState}
use Rattle.twin_batches.specs.Kind.{Kind, kept_of}
use Rattle.twin_batches.specs.declared.numbers.Batch.{Batch}
use Rattle.twin_batches.specs.declared.numbers.Holding.{Holding}
use Rattle.twin_batches.specs.declared.numbers.Numbers.{Numbers}
use Rattle.twin_batches.specs.declared.numbers.Batch.TheVariants.{Unsealed, Sealed, Gone}

-- What the batches in memory have in common with those of a state, beside phases, links and holds.
pub record Likeness (S U : Type 0) : Type 1 where
  pub parent : U → Option ℕ
  pub sealed : S → batches.SealedBatch Operation → Type 0
  pub unsealed : U → batches.UnsealedBatch Operation → Type 0

-- ---- batches by number

module _ {U : Type 0} where
  -- Batch p is sealed, and stands in the pool under this number.
  pub record Stands (bs : List (Batch U)) (p id : ℕ) : Type 0 where
    pub holding : Holding
    pub sealed : slice_index_or bs p Gone ≡ Sealed holding
    pub id_is : holding.id ≡ id

  -- A link in the pool is the link of batch b to one of a lower number.
  abbrev pub LinkIs : List (Batch U) → ℕ → Option ℕ → Option ℕ → Type 0
  LinkIs bs b None None = Unit {0}
  LinkIs bs b (Some id) (Some p) = (p < b) × Stands bs p id
  LinkIs bs b None (Some p) = ⊥
  LinkIs bs b (Some id) None = ⊥

  -- No two sealed batches stand in the pool under one number.
  abbrev pub AreApart : List (Batch U) → Type 0
  AreApart bs =
      (p q : ℕ) (j k : Holding) → slice_index_or bs p Gone ≡ Sealed j → slice_index_or bs q Gone ≡ Sealed k
      → j.id ≡ k.id → p ≡ q

  -- The sealed batch of a number, where the caller holds it.
  abbrev pub if_held : Batch U → Option Holding
  if_held (Unsealed u) = None
  if_held (Sealed k) = if nat_lt 0 k.holds then Some k else None
  if_held Gone = None

  abbrev pub held_in : List (Batch U) → ℕ → Option Holding
  held_in bs b = if_held (slice_index_or bs b Gone)

-- What is alive in a pool is held.
abbrev pub PoolKept : {S : Type 0} → List (Option (HeldBatch S)) → Type 0
PoolKept {S} pool = (id : ℕ) (e : HeldBatch S) → slot_at pool id ≡ Some e → 0 < e.holds

module _ {S U : Type 0} (like : Likeness S U) where
  -- An unsealed batch in memory, and the list machine's.
  pub record IsUnsealedOf (bs : List (Batch U)) (b : ℕ) (u : U) (w : batches.UnsealedBatch Operation) : Type 0 where
    pub is : like.unsealed u w
    pub link : LinkIs bs b (like.parent u) w.parent

  -- What the pool keeps of a sealed batch, and the list machine's.
  pub record IsItemOf (bs : List (Batch U)) (b : ℕ) (e : HeldBatch S) (c : batches.SealedBatch Operation) : Type 0 where
    pub is : like.sealed e.item c
    pub link : LinkIs bs b e.parent c.parent

  -- A sealed batch for the caller, and the list machine's. Its unsealed children and the caller hold it in the pool.
  -- The list machine keeps the fields of one that is dead too.
  pub record IsSealedOf (bs : List (Batch U)) (pool : List (Option (HeldBatch S)))
      (all : List (batches.Batch Operation)) (b : ℕ) (k : Holding) (c : batches.SealedBatch Operation) : Type 0 where
    pub holds : c.holds ≡ k.holds
    pub drawn : k.id < length pool
    pub below : link_bound c.parent ≤ b
    pub count : holds_of pool k.id ≡ k.holds + count_by (is_child b) all
    pub item : (e : HeldBatch S) → slot_at pool k.id ≡ Some e → IsItemOf bs b e c

  -- The batch of a number in memory, and the list machine's.
  abbrev pub IsEntryOf : List (Batch U) → List (Option (HeldBatch S)) → List (batches.Batch Operation) → ℕ → Batch U
      → batches.Batch Operation → Type 0
  IsEntryOf bs pool all b (Unsealed u) (batches.Unsealed w) = IsUnsealedOf bs b u w
  IsEntryOf bs pool all b (Unsealed u) (batches.Sealed c) = ⊥
  IsEntryOf bs pool all b (Unsealed u) batches.Gone = ⊥
  IsEntryOf bs pool all b (Sealed k) (batches.Unsealed w) = ⊥
  IsEntryOf bs pool all b (Sealed k) (batches.Sealed c) = IsSealedOf bs pool all b k c
  IsEntryOf bs pool all b (Sealed k) batches.Gone = ⊥
  IsEntryOf bs pool all b Gone (batches.Unsealed w) = ⊥
  IsEntryOf bs pool all b Gone (batches.Sealed c) = ⊥
  IsEntryOf bs pool all b Gone batches.Gone = Unit {0}

  -- The batches in memory and in the pool, and the list machine's.
  pub record AreBatchesOf (bs : List (Batch U)) (pool : List (Option (HeldBatch S)))
      (all : List (batches.Batch Operation)) : Type 0 where
    pub count : length all ≡ length bs
    pub each : (b : ℕ) → IsEntryOf bs pool all b (slice_index_or bs b Gone) (slice_index_or all b batches.Gone)
    pub apart : AreApart bs
    pub kept : PoolKept pool

-- No more numbers were drawn, and nothing is held more often.
pub record AreFew {S : Type 0} (n : ℕ) (pool : List (Option (HeldBatch S))) : Type 0 where
  pub drawn : length pool ≤ n
  pub holds : (id : ℕ) → holds_of pool id ≤ n

-- ---- a side

-- any state
abbrev pub AnyState : State Operation → Type 0
AnyState s = Unit {0}

-- A step has begun: it was counted, and it has drawn no number and held no batch yet.
pub record HasRoom {S U : Type 0} (n : Numbers S U) : Type 0 where
  pub within : n.taken < 2 ^ 64
  pub drawn : length n.pool < n.taken
  pub holds : (id : ℕ) → holds_of n.pool id < n.taken

module _ {Db S U : Type 0} (k : Kind Db S U) where
  -- A sealed batch has the list, the sizes and the floor of the list machine's; and an unsealed one has the list and
  -- the appends.
  pub record IsSealedAs (x : S) (c : batches.SealedBatch Operation) : Type 0 where
    pub list : k.is_sealed c.list x
    pub base : c.base ≡ (k.bounds x).base.size
    pub boundary : c.boundary ≡ (k.bounds x).db.size
    pub tips : c.tips ≡ sizes (k.bounds x).ancestors
    pub floor : c.floor ≡ (k.bounds x).inactivity_floor

  pub record IsUnsealedAs (u : U) (w : batches.UnsealedBatch Operation) : Type 0 where
    pub list : k.is_unsealed w.list u
    pub base : w.base ≡ length w.list
    pub pending : w.pending ≡ k.pending u

  abbrev pub same_lists : Likeness S U
  same_lists = record { parent = k.parent; sealed = IsSealedAs; unsealed = IsUnsealedAs }

  abbrev pub any_lists : Likeness S U
  any_lists = record { parent = k.parent; sealed = λ x c. Unit {0}; unsealed = λ u w. Unit {0} }

  -- What a side keeps over any contents: its batches have the phases, the links and the holds of some batches, whatever
  -- their lists. No number is drawn and no batch is held more often than steps were taken.
  pub record IsShaped (n : Numbers S U) : Type 0 where
    pub all : List (batches.Batch Operation)
    pub batches : AreBatchesOf any_lists n.batches.items n.pool all
    pub few : AreFew n.taken n.pool

  -- An unsealed batch has the marks that its seal needs: on a parent that is alive, the parent's.
  pub record HasMarks (pool : List (Option (HeldBatch S))) (u : U) : Type 0 where
    pub marks : List ℕ
    pub has : k.is_marked marks u
    pub on : IsMarkedOn k.bounds pool (k.parent u) (k.base u) marks

  -- So has each, and those in the pool have theirs.
  pub record HaveMarks (bs : List (Batch U)) (pool : List (Option (HeldBatch S))) : Type 0 where
    pub sealed : AreMarked k.bounds pool
    pub unsealed : (b : ℕ) (u : U) → slice_index_or bs b Gone ≡ Unsealed u → HasMarks pool u

  -- With these contents of a volume a side stands for a state of the list machine: its database is what is kept of the
  -- state, and its batches are the state's, and have their marks.
  pub record IsStateOf (image : Image) (db : Db) (n : Numbers S U) (s : State Operation) : Type 0 where
    pub log : k.is_of (kept_of s) image db
    pub batches : AreBatchesOf same_lists n.batches.items n.pool s.batches
    pub marks : HaveMarks n.batches.items n.pool

  -- With these contents a side stands for a good state, under the configuration that its database was opened under.
  pub record StandsGood (config : Config) (image : Image) (db : Db) (n : Numbers S U) (s : State Operation)
      : Type 0 where
    pub good : IsGoodState AnyList config.value_limit s
    pub under : k.is_under config db
    pub few : config.value_limit < 2 ^ 64
    pub is : IsStateOf image db n s

  -- An answer, and the side after it, are an outcome.
  abbrev pub Meets : Outcome → Image → Db → Numbers S U → Answer → Type 0
  Meets o image db n a = (a ≡ o.0) × IsStateOf image db n o.1

  -- A reply tells an outcome, and the side after it stands for the state that the outcome leaves.
  abbrev pub RepliesAs : Outcome → Image → Db → Numbers S U → Reply → Type 0
  RepliesAs o image db n r = (r ≡ reply o) × IsStateOf image db n o.1

  -- A step keeps the shape; and for whatever state of these the side stood, its answer and what it left are what the
  -- list machine makes of that state.
  pub record Follows (of : State Operation → Type 0) (step : State Operation → Outcome) (was is : Image) (db made : Db)
      (old new : Numbers S U) (a : Answer) : Type 0 where
    pub shaped : IsShaped new
    pub follows : (s : State Operation) → of s → IsStateOf was db old s → Meets (step s) is made new a

  -- So over any contents, where neither these nor the database are touched.
  abbrev pub Answers : (State Operation → Type 0) → (State Operation → Outcome) → Db → Numbers S U → Numbers S U
      → Answer → Type 0
  Answers of step db old new a = (image : Image) → Follows of step image image db db old new a

  -- A side may apply batch b: the caller holds it, and the database stands at its boundary or at the tip of an
  -- ancestor.
  pub record Takes (db : Db) (n : Numbers S U) (b : ℕ) : Type 0 where
    pub holding : Holding
    pub held : held_in n.batches.items b ≡ Some holding
    pub stands : (x : S) → item_at n.pool holding.id ≡ Some x
        → Contains ((k.bounds x).db ∷ (k.bounds x).ancestors) (k.state db)
