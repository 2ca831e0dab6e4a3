-- Pools whose batches have a mark where what is reached from them ends, whichever of their ancestors die.
use Rattle.std.specs.Prelude.{◌≡◌, ℕ, ◌<◌, ◌≤◌, length, List, [], ◌∷◌, ◌++◌, map, Option, Some, None, IsSomeAnd}
use Rattle.std.specs.List.{AllByRecursion}
use Rattle.std.specs.Option.{ForSome}
use Rattle.chain_core.specs.Marks.{sizes_back}
use Rattle.chain_core.specs.Reached.{item_at, items_at}
use Rattle.chain_core.specs.Slots.{slot_at}
use Rattle.chain_core.specs.States.{sizes}
use Rattle.chain_core.specs.declared.bounds.Bounds.{Bounds}
use Rattle.chain_core.specs.declared.commitment.Commitment.{Commitment}
use Rattle.chain_core.specs.declared.pool.HeldBatch.{HeldBatch}

-- The batches of these numbers are alive. The link names the first, and each other is the parent of the one before.
abbrev pub IsRow : {T : Type 0} → List (Option (HeldBatch T)) → Option ℕ → List ℕ → Type 0
IsRow pool link [] = Unit {0}
IsRow pool None (first ∷ ids) = ⊥
IsRow pool (Some id) (first ∷ ids) = (first ≡ id) × IsSomeAnd (slot_at pool id) (λ b. IsRow pool b.parent ids)

-- What is alive under a number that was drawn was so before.
abbrev pub KeepsItems : {T : Type 0} → List (Option (HeldBatch T)) → List (Option (HeldBatch T)) → Type 0
KeepsItems {T} old new = (id : ℕ) (x : T) → id < length old → item_at new id ≡ Some x → item_at old id ≡ Some x

-- No size is above one before it.
abbrev pub NeverRise : List ℕ → Type 0
NeverRise [] = Unit {0}
NeverRise (n ∷ ns) = AllByRecursion (λ m. m ≤ n) ns × NeverRise ns

-- The sizes of the states behind a batch's tip, the newest first.
abbrev pub sizes_behind : {F D : Type 0} → Bounds F D → List ℕ
sizes_behind b = sizes b.ancestors ++ (b.db.size ∷ [])

module _ {T F D : Type 0} (bounds : T → Bounds F D) where
  -- The base of the last of several batches, or this one where there are none.
  abbrev pub last_base : Commitment F D → List T → Commitment F D
  last_base base [] = base
  last_base base (c ∷ cs) = last_base (bounds c).base cs

  module _ (pool : List (Option (HeldBatch T))) where
    -- A batch on this parent has its marks: however many of its ancestors are alive in a row, their tips and the base
    -- of the last are the newest of the sizes behind its tip; where there are none, its own base is. So whichever of
    -- them die, it has a mark at the base of the oldest that is reached.
    pub record IsMarkedAt (parent : Option ℕ) (b : Bounds F D) : Type 0 where
      pub drawn : ForSome parent (λ p. p < length pool)
      pub back : NeverRise (sizes_back b)
      pub row : (ids : List ℕ) → IsRow pool parent ids → (older : List ℕ)
          × (sizes_behind b ≡ sizes (map (λ c. (bounds c).tip) (items_at pool ids))
          ++ ((last_base b.base (items_at pool ids)).size ∷ older))

    -- Each batch that is alive has its marks.
    abbrev pub AreMarked : Type 0
    AreMarked = (id : ℕ) (e : HeldBatch T) → slot_at pool id ≡ Some e → IsMarkedAt e.parent (bounds e.item)
