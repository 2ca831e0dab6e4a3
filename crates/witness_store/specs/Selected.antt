-- Which witness of a log is selected under a cap.
use Rattle.std.specs.Prelude.{◌≡◌, ℕ, ◌+◌, ◌-◌, ◌<◌, ◌≤◌, List, length, Option, Some, None, slice_get}
use Rattle.journal_base.specs.Items.{Items}
use Rattle.witness_store.specs.Searched.{IsWitnessAt}
use Rattle.witness_store.specs.Witnesses.{place_of}
use Rattle.witness_store.specs.declared.witness.Witness.{Witness}

module _ {F D : Type 0} where
  -- At this position stands a witness of more operations than this.
  pub record IsAbove (items : Items (Witness F D)) (position size : ℕ) : Type 0 where
    pub witness : Witness F D
    pub here : IsWitnessAt items position witness
    pub more : size < witness.size

  -- Between a start and an end: the witness before this position is within the cap, and the one at it isn't, or there is
  -- none. Without a cap it is the last one.
  abbrev pub IsSelected : Items (Witness F D) → ℕ → ℕ → Option ℕ → ℕ × Witness F D → Type 0
  IsSelected items start end None s = (start < s.0) × (s.0 ≡ end) × IsWitnessAt items (s.0 - 1) s.1
  IsSelected items start end (Some cap) s =
      (start < s.0) × (s.0 ≤ end) × IsWitnessAt items (s.0 - 1) s.1 × (s.1.size ≤ cap) × (s.0 < end → IsAbove items s.0 cap)

  -- The first witness is above the cap.
  abbrev pub NoneWithin : Items (Witness F D) → ℕ → Option ℕ → Type 0
  NoneWithin items start None = ⊥
  NoneWithin items start (Some cap) = IsAbove items start cap

  -- Where the kept witnesses of at most so many operations end.
  abbrev pub end_within : List (Witness F D) → ℕ → Option ℕ → ℕ
  end_within ws start None = length ws
  end_within ws start (Some cap) = place_of ws start (cap + 1)

  -- The last of the kept witnesses within the cap, and where they end; nothing where none is.
  abbrev pub IsLastWithin : List (Witness F D) → ℕ → Option ℕ → Option (ℕ × Witness F D) → Type 0
  IsLastWithin ws start cap None = end_within ws start cap ≡ start
  IsLastWithin ws start cap (Some s) = (s.0 ≡ end_within ws start cap) × (start < s.0) × (slice_get ws (s.0 - 1) ≡ Some s.1)
