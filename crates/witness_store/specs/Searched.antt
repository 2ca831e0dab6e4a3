-- What a search finds among the witnesses of a log, and how many it looks at.
use Rattle.std.specs.Prelude.{◌≡◌, ℕ, ◌+◌, ◌*◌, ◌-◌, ◌^◌, ◌<◌, ◌≤◌, Option, Some, None}
use Rattle.journal_base.specs.Items.{Items, Holds}
use Rattle.volume_base.specs.Volume.{State}
use Rattle.witness_store.specs.declared.search.Found.{Found}
use Rattle.witness_store.specs.declared.witness.Witness.{Witness}

module _ {F D : Type 0} where
  -- At this position stands this witness, and it is allowed.
  abbrev pub IsWitnessAt : Items (Witness F D) → ℕ → Witness F D → Type 0
  IsWitnessAt items position w = Holds items position w × items.admits w

  -- Before the position stands this witness, of fewer operations; or the position is the start.
  abbrev pub IsBefore : Items (Witness F D) → ℕ → ℕ → ℕ → Option (Witness F D) → Type 0
  IsBefore items start position size None = position ≡ start
  IsBefore items start position size (Some w) =
      (start < position) × IsWitnessAt items (position - 1) w × (w.size < size)

  -- At the position stands this witness, of at least so many operations; or the position is the end.
  abbrev pub IsHere : Items (Witness F D) → ℕ → ℕ → ℕ → Option (Witness F D) → Type 0
  IsHere items end position size None = position ≡ end
  IsHere items end position size (Some w) = (position < end) × IsWitnessAt items position w × (size ≤ w.size)

  -- Between a start and an end: where the witnesses of fewer operations end.
  pub record IsFirst (items : Items (Witness F D)) (start end size : ℕ) (found : Found F D) : Type 0 where
    pub low : start ≤ found.position
    pub high : found.position ≤ end
    pub before : IsBefore items start found.position size found.before
    pub here : IsHere items end found.position size found.here

-- Of so many items it has read no more than a search by halving does.
pub record LooksFew (items : ℕ) (old new : State) : Type 0 where
  pub looks : ℕ
  pub counted : new.reads ≤ old.reads + looks
  pub few : 2 ^ looks ≤ 2 * items + 1
