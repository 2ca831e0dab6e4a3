-- What a batch reaches through its parents, and where it may be sealed and applied.
use Rattle.std.specs.Prelude.{ℕ, zero, suc, Bool, false, ◌||◌, ◌==◌, nat_lt, List, [], ◌∷◌, length, map, Option, Some, None, if◌then◌else◌}
use Rattle.std.specs.List.{list_any}
use Rattle.std.specs.Option.{option_map_or}
use Rattle.log_model.specs.Meaning.{Meaning}
use Rattle.log_model.specs.Operations.{floor_of}
use Rattle.log_model.specs.StateBatches.{Batch, UnsealedBatch, SealedBatch, Unsealed, Sealed, Gone, is_held, sealed}
use Rattle.log_model.specs.Machine.{State, SameTest, batch_at, stands_at}

-- Whether a link names batch p.
abbrev pub names : ℕ → Option ℕ → Bool
names p None = false
names p (Some q) = q == p

-- Whether it is an unsealed batch with parent p.
abbrev pub is_child : {Op : Type 0} → ℕ → Batch Op → Bool
is_child p (Unsealed u) = names p u.parent
is_child p (Sealed c) = false
is_child p Gone = false

-- Whether a sealed batch p is alive: it is held, or an unsealed batch has it as parent.
abbrev pub is_alive : {Op : Type 0} → State Op → ℕ → SealedBatch Op → Bool
is_alive s p c = is_held c || list_any (is_child p) s.batches

-- The sealed batch that it is, if it is one.
abbrev pub as_sealed : {Op : Type 0} → Batch Op → Option (SealedBatch Op)
as_sealed (Unsealed u) = None
as_sealed (Sealed c) = Some c
as_sealed Gone = None

-- The sealed batch that a link names.
abbrev pub linked : {Op : Type 0} → State Op → Option ℕ → Option (SealedBatch Op)
linked s None = None
linked s (Some p) = as_sealed (batch_at s p)

-- The same, where it is alive.
abbrev pub if_alive : {Op : Type 0} → State Op → ℕ → Batch Op → Option (SealedBatch Op)
if_alive s p (Unsealed u) = None
if_alive s p (Sealed c) = if is_alive s p c then Some c else None
if_alive s p Gone = None

abbrev pub alive_at : {Op : Type 0} → State Op → Option ℕ → Option (SealedBatch Op)
alive_at s None = None
alive_at s (Some p) = if_alive s p (batch_at s p)

-- The batches from a link on, from parent to parent, up to the last one before the first that isn't alive; at most n of them.
abbrev pub reach_from : {Op : Type 0} → State Op → ℕ → Option ℕ → List (SealedBatch Op)
reach_from s zero link = []
reach_from s (suc n) link = option_map_or (λ c. c ∷ reach_from s n c.parent) (alive_at s link) []

-- A parent's number is below its child's, so no more batches than this follow a link.
abbrev pub link_bound : Option ℕ → ℕ
link_bound None = zero
link_bound (Some p) = suc p

-- The reach of an unsealed batch: its parent, the parent's parent, and so on.
abbrev pub reach : {Op : Type 0} → State Op → UnsealedBatch Op → List (SealedBatch Op)
reach s u = reach_from s (link_bound u.parent) u.parent

-- The tips of the batches in its reach, the newest first.
abbrev pub tips_of : {Op : Type 0} → List (SealedBatch Op) → List ℕ
tips_of cs = map (λ c. length c.list) cs

-- The base of the oldest.
abbrev pub oldest_base : {Op : Type 0} → List (SealedBatch Op) → Option ℕ
oldest_base [] = None
oldest_base (c ∷ []) = Some c.base
oldest_base (c ∷ next ∷ cs) = oldest_base (next ∷ cs)

-- A base, where there is one and it is greater than a boundary; otherwise the boundary.
abbrev pub later : ℕ → Option ℕ → ℕ
later boundary None = boundary
later boundary (Some base) = if nat_lt boundary base then base else boundary

-- The boundary that an unsealed batch inherits: its parent's, or its own base where it has none.
abbrev pub inherited_boundary : {Op : Type 0} → State Op → UnsealedBatch Op → ℕ
inherited_boundary s u = option_map_or (λ c. c.boundary) (linked s u.parent) u.base

-- The boundary that holds for it: the base of the oldest in its reach where that is greater than the inherited one, otherwise the inherited one.
abbrev pub effective_boundary : {Op : Type 0} → State Op → UnsealedBatch Op → ℕ
effective_boundary s u = later (inherited_boundary s u) (oldest_base (reach s u))

-- The floor that it builds on: its parent's, or the log's where it has no parent.
abbrev pub floor_below : {Op V : Type 0} → Meaning Op V → State Op → UnsealedBatch Op → ℕ
floor_below m s u = option_map_or (λ c. c.floor) (linked s u.parent) (floor_of m s.ops)

-- Whether the present list is a batch's list up to this boundary, or up to one of these tips, by a test of lists.
abbrev pub stands_on : {Op : Type 0} → SameTest Op → State Op → List Op → ℕ → List ℕ → Bool
stands_on same s list boundary tips = stands_at same s list boundary || list_any (stands_at same s list) tips

-- Whether an unsealed batch may be sealed here.
abbrev pub may_seal : {Op : Type 0} → SameTest Op → State Op → UnsealedBatch Op → Bool
may_seal same s u = stands_on same s u.list (effective_boundary s u) (tips_of (reach s u))

-- Whether a sealed batch may be applied here.
abbrev pub may_apply : {Op : Type 0} → SameTest Op → State Op → SealedBatch Op → Bool
may_apply same s c = stands_on same s c.list c.boundary c.tips

-- The sealed batch that an unsealed one becomes here, by a commit of this floor.
abbrev pub sealed_here : {Op : Type 0} → State Op → UnsealedBatch Op → Op → ℕ → SealedBatch Op
sealed_here s u commit floor = sealed u (effective_boundary s u) (tips_of (reach s u)) commit floor

-- ---- reads of batches

-- Whether a sealed batch may be read here: where its chain began, at a tip of its ancestors, or at its own.
abbrev pub may_read_sealed : {Op : Type 0} → SameTest Op → State Op → SealedBatch Op → Bool
may_read_sealed same s c = stands_on same s c.list c.boundary (length c.list ∷ c.tips)

-- An unsealed batch is judged by its parent; one without stands on the whole present list.
abbrev pub may_read_unsealed : {Op : Type 0} → SameTest Op → State Op → UnsealedBatch Op → Bool
may_read_unsealed same s u = option_map_or (λ c. may_read_sealed same s c) (linked s u.parent) (same s.ops u.list)
