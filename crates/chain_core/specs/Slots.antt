-- What a pool is seen as: one slot for each number that was drawn, which holds a batch as long as it is alive.
use Rattle.std.specs.Prelude.{◌≡◌, ℕ, ◌+◌, ◌-◌, ◌==◌, ◌<◌, ◌≤◌, length, List, [], ◌∷◌, Option, Some, None, IsSome, IsSomeAnd, slice_index_or, slice_set, option_and_then, if◌then◌else◌}
use Rattle.std.specs.Option.{option_map, option_map_or}
use Rattle.chain_core.specs.declared.pool.HeldBatch.{HeldBatch}

-- What is alive under a number. A number that wasn't drawn has nothing.
abbrev pub slot_at : {T : Type 0} → List (Option (HeldBatch T)) → ℕ → Option (HeldBatch T)
slot_at slots id = slice_index_or slots id None

-- A batch is alive under the number.
abbrev pub IsAlive : {T : Type 0} → List (Option (HeldBatch T)) → ℕ → Type 0
IsAlive slots id = IsSome (slot_at slots id)

-- How often the batch under a number is held.
abbrev pub holds_of : {T : Type 0} → List (Option (HeldBatch T)) → ℕ → ℕ
holds_of slots id = option_map_or (λ b. b.holds) (slot_at slots id) 0

-- The batch, held once more.
abbrev pub with_hold : {T : Type 0} → HeldBatch T → HeldBatch T
with_hold b = record b { holds = b.holds + 1 }

-- The batch, held once less. Nothing is left of it where this was the last time.
abbrev pub without_hold : {T : Type 0} → HeldBatch T → Option (HeldBatch T)
without_hold b = if b.holds == 1 then None else Some (record b { holds = b.holds - 1 })

-- The slots, where the batch that a link names is held once more, or once less.
abbrev pub link_held : {T : Type 0} → List (Option (HeldBatch T)) → Option ℕ → List (Option (HeldBatch T))
link_held slots None = slots
link_held slots (Some id) = slice_set slots id (option_map with_hold (slot_at slots id))

abbrev pub link_released : {T : Type 0} → List (Option (HeldBatch T)) → Option ℕ → List (Option (HeldBatch T))
link_released slots None = slots
link_released slots (Some id) = slice_set slots id (option_and_then without_hold (slot_at slots id))

-- The numbers are those from a link on, from parent to parent, to the last one before the first that is dead.
abbrev pub IsReach : {T : Type 0} → (ℕ → Option (HeldBatch T)) → Option ℕ → List ℕ → Type 0
IsReach living None ids = ids ≡ []
IsReach living (Some id) [] = living id ≡ None
IsReach living (Some id) (first ∷ ids) = (first ≡ id) × IsSomeAnd (living id) (λ b. IsReach living b.parent ids)

-- Each number that was drawn stays drawn, and one that is dead stays dead.
pub record KeepsDead {T : Type 0} (old new : List (Option (HeldBatch T))) : Type 0 where
  pub drawn : length old ≤ length new
  pub dead : (id : ℕ) → id < length old → slot_at old id ≡ None → slot_at new id ≡ None
