-- A log that holds the witnesses of a list of states.
use Rattle.std.specs.Prelude.{◌≡◌, ℕ, ◌+◌, ◌-◌, ◌<◌, ◌≤◌, min, List, [], ◌∷◌, map, length, drop, slice_get, Option, Some, None, IfSome}
use Rattle.std.specs.List.{AllByRecursion}
use Rattle.volume_base.specs.Volume.{State}
use Rattle.journal_base.specs.Items.{Items, Spells, items_of}
use Rattle.journal_base.specs.View.{View}
use Rattle.log_model.specs.AppliedSizes.{first_at_least}
use Rattle.witness_store.specs.declared.witness.Witness.{Witness}
use Rattle.witness_store.specs.Witness.{text_of, IsAllowed}

-- what a volume holds of a journal of witnesses, where digests are spelled and allowed so
abbrev pub witnesses_of : {F D : Type 0} → (D → List ℕ) → (D → Type 0) → View (Unit {0}) → State → Items (Witness F D)
witnesses_of spelling admits view state = items_of (text_of spelling) (λ codec. IsAllowed admits) view state

-- Each is less than the next.
abbrev pub Rises : List ℕ → Type 0
Rises [] = Unit {0}
Rises (n ∷ []) = Unit {0}
Rises (n ∷ m ∷ ms) = (n < m) × Rises (m ∷ ms)

module _ {F D : Type 0} where
  abbrev pub sizes_of : List (Witness F D) → List ℕ
  sizes_of ws = map (λ w. w.size) ws

  -- The log holds these witnesses from its start on, to the list's end. Those that it holds are allowed, and their sizes
  -- rise. What the list has before the start is free.
  pub record Keeps (items : Items (Witness F D)) (ws : List (Witness F D)) : Type 0 where
    pub spelled : Spells items.spelling ws items.log
    pub allowed : AllByRecursion items.admits (drop items.log.start ws)
    pub rising : Rises (sizes_of (drop items.log.start ws))

  -- The position of the first kept witness of at least so many operations; the end where there is none.
  abbrev pub place_of : List (Witness F D) → ℕ → ℕ → ℕ
  place_of ws start size = start + first_at_least size (sizes_of (drop start ws))

  -- From where on a prune keeps all: the first kept witness of at least so many operations, or the last one.
  abbrev pub kept_from : List (Witness F D) → ℕ → ℕ → ℕ
  kept_from ws start size = min (place_of ws start size) (length ws - 1)

  -- The last kept witness, where there is one, is of fewer operations.
  abbrev pub LastIsBelow : List (Witness F D) → ℕ → ℕ → Type 0
  LastIsBelow ws start size = start < length ws → IfSome (slice_get ws (length ws - 1)) (λ w. w.size < size)

  -- The kept witness of exactly so many operations, with its position; or none is.
  abbrev pub IsKept : List (Witness F D) → ℕ → ℕ → Option (ℕ × Witness F D) → Type 0
  IsKept ws start size None = (p : ℕ) (w : Witness F D) → start ≤ p → slice_get ws p ≡ Some w → w.size ≡ size → ⊥
  IsKept ws start size (Some found) =
      (start ≤ found.0) × (slice_get ws found.0 ≡ Some found.1) × (found.1.size ≡ size)
