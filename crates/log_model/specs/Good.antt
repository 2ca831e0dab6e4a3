-- Good states: what every state of a log and its batches keeps.
use Rattle.std.specs.Prelude.{◌≡◌, ◌⊎◌, ℕ, ◌+◌, ◌<◌, ◌≤◌, List, [], ◌∷◌, length, take, unwrap_or, IsSome, IsNone, IfSome, IsSomeAnd, Contains, Option, Some, None}
use Rattle.log_model.specs.Meaning.{Meaning}
use Rattle.log_model.specs.Operations.{floor_of}
use Rattle.log_model.specs.StateBatches.{Batch, Unsealed, Sealed, Gone, size_of}
use Rattle.log_model.specs.Machine.{State, max_leaves, batch_at}
use Rattle.log_model.specs.Reach.{as_sealed}
use Rattle.log_model.specs.AppliedSizes.{AreSizes, first_at_least}

-- A list ends with a commit.
abbrev pub EndsWithCommit : {Op V : Type 0} → Meaning Op V → List Op → Type 0
EndsWithCommit m [] = ⊥
EndsWithCommit m (op ∷ []) = IsSome (m.floor op)
EndsWithCommit m (op ∷ next ∷ ops) = EndsWithCommit m (next ∷ ops)

-- The floor of an operation at location i, where it is a commit, is at least this and at most its location.
abbrev pub FloorFits : ℕ → ℕ → Option ℕ → Type 0
FloorFits low i None = Unit {0}
FloorFits low i (Some floor) = (low ≤ floor) × (floor ≤ i)

-- From location i on, the floors of commits never fall from this one on, and each is at most its commit's location.
abbrev pub FloorsRise : {Op V : Type 0} → Meaning Op V → ℕ → ℕ → List Op → Type 0
FloorsRise m low i [] = Unit {0}
FloorsRise m low i (op ∷ ops) = FloorFits low i (m.floor op) × FloorsRise m (unwrap_or (m.floor op) low) (i + 1) ops

-- Each value and each metadata is one of these.
abbrev pub ValuesAre : {Op V : Type 0} → Meaning Op V → (V → Type 0) → List Op → Type 0
ValuesAre m allowed [] = Unit {0}
ValuesAre m allowed (op ∷ ops) = IfSome (m.value op) allowed × ValuesAre m allowed ops

-- None is a commit.
abbrev pub AreAppends : {Op V : Type 0} → Meaning Op V → List Op → Type 0
AreAppends m [] = Unit {0}
AreAppends m (op ∷ ops) = IsNone (m.floor op) × AreAppends m ops

-- Any list.
abbrev pub AnyList : {Op : Type 0} → List Op → Type 0
AnyList list = Unit {0}

-- A place where the log may stand: a list that ends with a commit, and is one of these.
abbrev pub IsStand : {Op V : Type 0} → Meaning Op V → (List Op → Type 0) → List Op → Type 0
IsStand m among list = EndsWithCommit m list × among list

-- A list of the log: it begins with the first commit, the log may stand there, a tree can hold it, its values are allowed, and its floors rise.
pub record IsGoodList {Op V : Type 0} (m : Meaning Op V) (among : List Op → Type 0) (allowed : V → Type 0) (first : Op)
    (list : List Op) : Type 0 where
  pub begins : take 1 list ≡ first ∷ []
  pub stand : IsStand m among list
  pub few : length list ≤ max_leaves
  pub values : ValuesAre m allowed list
  pub floors : FloorsRise m 0 0 list

-- A length of a list up to which the log may stand there.
abbrev pub IsMark : {Op V : Type 0} → Meaning Op V → (List Op → Type 0) → List Op → ℕ → Type 0
IsMark m among list n = (n ≤ length list) × IsStand m among (take n list)

-- All are marks of the list.
abbrev pub AreMarks : {Op V : Type 0} → Meaning Op V → (List Op → Type 0) → List Op → List ℕ → Type 0
AreMarks m among list [] = Unit {0}
AreMarks m among list (n ∷ ns) = IsMark m among list n × AreMarks m among list ns

-- An unsealed batch stands on a list of the log, whose length is its base; its appends are allowed, and a tree can hold them. The base, the boundary and the tips of a sealed one are marks of its list, whose floor is its floor.
abbrev pub IsGoodBatch : {Op V : Type 0} → Meaning Op V → (List Op → Type 0) → (V → Type 0) → Op → Batch Op → Type 0
IsGoodBatch m among allowed first (Unsealed u) =
    IsGoodList m among allowed first u.list × (u.base ≡ length u.list) × AreAppends m u.pending
    × ValuesAre m allowed u.pending × (size_of u ≤ max_leaves)
IsGoodBatch m among allowed first (Sealed c) =
    IsGoodList m among allowed first c.list × IsMark m among c.list c.base × IsMark m among c.list c.boundary
    × AreMarks m among c.list c.tips × (c.floor ≡ floor_of m c.list)
IsGoodBatch m among allowed first Gone = Unit {0}

-- The parent of a batch b is a sealed one of a lower number. Its list is the batch's, up to the batch's base.
abbrev pub ParentFits : {Op : Type 0} → State Op → ℕ → List Op → ℕ → Option ℕ → Type 0
ParentFits s b list base None = Unit {0}
ParentFits s b list base (Some p) = (p < b) × IsSomeAnd (as_sealed (batch_at s p)) (λ c. c.list ≡ take base list)

abbrev pub HasParent : {Op : Type 0} → State Op → ℕ → Batch Op → Type 0
HasParent s b (Unsealed u) = ParentFits s b u.list u.base u.parent
HasParent s b (Sealed c) = ParentFits s b c.list c.base c.parent
HasParent s b Gone = Unit {0}

-- Each of these lengths of a list ends with a commit.
abbrev pub AreCommits : {Op V : Type 0} → Meaning Op V → List Op → List ℕ → Type 0
AreCommits m list [] = Unit {0}
AreCommits m list (n ∷ ns) = EndsWithCommit m (take n list) × AreCommits m list ns

-- The durable size is an applied one; or nothing is durable, and nothing was applied.
abbrev pub IsDurable : List ℕ → ℕ → Type 0
IsDurable sizes durable = Contains sizes durable ⊎ ((durable ≡ 0) × (sizes ≡ 1 ∷ []))

-- What stands on the volume, and in its place: each applied size ends with a commit, no more is durable than is there,
-- what is pruned is durable and at most the floor at the durable size, and both logs keep what isn't pruned.
pub record IsGoodLog {Op V : Type 0} (m : Meaning Op V) (s : State Op) : Type 0 where
  pub sizes : AreSizes (length s.ops) s.sizes
  pub commits : AreCommits m s.ops s.sizes
  pub nodes : s.node_durable ≤ s.durable
  pub within : s.durable ≤ length s.ops
  pub durable : IsDurable s.sizes s.durable
  pub start : s.start ≤ s.prune
  pub pruned : s.prune ≤ s.node_durable
  pub floor : s.prune ≤ floor_of m (take s.durable s.ops)
  pub wstart : s.wstart ≤ first_at_least s.prune s.sizes

-- The log's list is good, and so is each batch, and its parent fits.
pub record IsGood {Op V : Type 0} (m : Meaning Op V) (among : List Op → Type 0) (allowed : V → Type 0) (first : Op)
    (s : State Op) : Type 0 where
  pub ops : IsGoodList m among allowed first s.ops
  pub log : IsGoodLog m s
  pub batches : (b : ℕ) → IsGoodBatch m among allowed first (batch_at s b)
  pub parents : (b : ℕ) → HasParent s b (batch_at s b)

-- A good state of which something is durable.
pub record IsGoodState {Op V : Type 0} (m : Meaning Op V) (among : List Op → Type 0) (allowed : V → Type 0) (first : Op)
    (s : State Op) : Type 0 where
  pub good : IsGood m among allowed first s
  pub some : 1 ≤ s.durable
