-- What a batch reaches through its parents, and where it may be sealed, by what its ancestors in the pool carry.
use Rattle.std.specs.Prelude.{◌≡◌, ℕ, List, [], ◌∷◌, ◌++◌, map, Option, Some, None}
use Rattle.std.specs.Option.{option_map, option_map_or}
use Rattle.chain_core.specs.Commitments.{later_state}
use Rattle.chain_core.specs.Slots.{slot_at, IsReach}
use Rattle.chain_core.specs.declared.bounds.Bounds.{Bounds}
use Rattle.chain_core.specs.declared.commitment.Commitment.{Commitment}
use Rattle.chain_core.specs.declared.place.Place.{Place}
use Rattle.chain_core.specs.declared.pool.HeldBatch.{HeldBatch}

module _ {T : Type 0} where
  -- The batch that is alive under a number.
  abbrev pub item_at : List (Option (HeldBatch T)) → ℕ → Option T
  item_at pool id = option_map (λ b. b.item) (slot_at pool id)

  -- The batch that a link names, where it is alive.
  abbrev pub linked_item : List (Option (HeldBatch T)) → Option ℕ → Option T
  linked_item pool None = None
  linked_item pool (Some id) = item_at pool id

  abbrev pub one_or_none : Option T → List T
  one_or_none None = []
  one_or_none (Some c) = c ∷ []

  -- The batches that are alive under these numbers.
  abbrev pub items_at : List (Option (HeldBatch T)) → List ℕ → List T
  items_at pool [] = []
  items_at pool (id ∷ ids) = one_or_none (item_at pool id) ++ items_at pool ids

  module _ {F D : Type 0} (bounds : T → Bounds F D) where
    -- The base of the last of several batches.
    abbrev pub oldest_in : List T → Option (Commitment F D)
    oldest_in [] = None
    oldest_in (c ∷ []) = Some (bounds c).base
    oldest_in (c ∷ next ∷ cs) = oldest_in (next ∷ cs)

    -- What is reached from a link on has these tips, the newest first, and its oldest has this base.
    pub record Reaches (pool : List (Option (HeldBatch T))) (link : Option ℕ) (tips : List (Commitment F D))
        (oldest : Option (Commitment F D)) : Type 0 where
      pub ids : List ℕ
      pub reach : IsReach (slot_at pool) link ids
      pub tips_are : tips ≡ map (λ c. (bounds c).tip) (items_at pool ids)
      pub oldest_is : oldest ≡ oldest_in (items_at pool ids)

    -- The boundary that a batch inherits: its parent's, or its own base where it has no parent.
    abbrev pub inherited_state : List (Option (HeldBatch T)) → Option ℕ → Commitment F D → Commitment F D
    inherited_state pool parent base = option_map_or (λ c. (bounds c).db) (linked_item pool parent) base

    -- The floor that it builds on: its parent's, or the log's where it has no parent.
    abbrev pub parent_floor : List (Option (HeldBatch T)) → Option ℕ → ℕ → ℕ
    parent_floor pool parent floor = option_map_or (λ c. (bounds c).inactivity_floor) (linked_item pool parent) floor

    -- Where a batch may be sealed that has this parent, or stands on this state of a log with this floor.
    pub record IsPlaceOf (pool : List (Option (HeldBatch T))) (parent : Option ℕ) (base : Commitment F D) (floor : ℕ)
        (place : Place F D) : Type 0 where
      pub oldest : Option (Commitment F D)
      pub reach : Reaches pool parent place.ancestors oldest
      pub boundary : place.boundary ≡ later_state (inherited_state pool parent base) oldest
      pub floor_is : place.floor ≡ parent_floor pool parent floor
