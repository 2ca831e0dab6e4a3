-- What a volume holds of a compact database.
use Rattle.std.specs.Prelude.{◌≡◌, ℕ, ◌-◌, ◌^◌, ◌<◌, ◌≤◌, false, List, length, map, take, drop, Some, slice_get}
use Rattle.std.specs.List.{AllByRecursion}
use Rattle.journal_base.specs.Items.{Items}
use Rattle.journal_base.specs.View.{IsHeld, log_of}
use Rattle.volume_base.specs.Volume.{State}
use Rattle.tree_shape.specs.Hashing.{Hashing}
use Rattle.tree_shape.specs.Shape.{Shape}
use Rattle.log_model.specs.Meaning.{Meaning}
use Rattle.log_model.specs.Good.{EndsWithCommit}
use Rattle.witness_store.specs.Witnesses.{witnesses_of, Keeps}
use Rattle.witness_store.specs.declared.witness.Witness.{Witness}
use Rattle.compact_db.specs.DbView.{DbView, IsOfList, seen_log, waits}
use Rattle.compact_db.specs.WitnessOf.{witness_of}

-- A size at which a list ends with a commit.
abbrev pub IsSizeOf : {Op V : Type 0} → Meaning Op V → List Op → ℕ → Type 0
IsSizeOf m ops n = (n ≤ length ops) × EndsWithCommit m (take n ops)

-- The log keeps the witnesses of a list at these sizes, and the list ends with a commit at each that is kept.
pub record HasStates {F D Op V : Type 0} (s : Shape) (h : Hashing D) (m : Meaning Op V) (ops : List Op) (sizes : List ℕ)
    (items : Items (Witness F D)) : Type 0 where
  pub few : length ops ≤ 2 ^ 62
  pub witnesses : Keeps items (map (witness_of s h m ops) sizes)
  pub within : AllByRecursion (IsSizeOf m ops) (drop items.log.start sizes)

-- The volume has the witnesses of a list at these sizes, of which the log keeps the last one at least, and the database
-- is that of the list, which has the last of them. What sizes there are before the log's start is free.
pub record IsHeldFor {F D Op V Cfg : Type 0} (s : Shape) (h : Hashing D) (m : Meaning Op V) (spelling : D → List ℕ)
    (admits : D → Type 0) (ops : List Op) (sizes : List ℕ) (db : DbView F D Op Cfg) (state : State) : Type 0 where
  pub list : IsOfList s h m ops db
  pub opened : waits db.log ≡ false
  pub bounds : IsHeld (seen_log db.log) state
  pub witnesses : Keeps {F = F} (witnesses_of spelling admits (seen_log db.log) state)
      (map (witness_of s h m ops) sizes)
  pub within : AllByRecursion (IsSizeOf m ops) (drop (log_of (seen_log db.log) state).start sizes)
  pub some : (log_of (seen_log db.log) state).start < length sizes
  pub last : slice_get sizes (length sizes - 1) ≡ Some (length ops)

-- But for its log it is the same database.
pub record SameState {F D Op Cfg : Type 0} (old new : DbView F D Op Cfg) : Type 0 where
  pub tip : new.tip ≡ old.tip
  pub tree : new.tree ≡ old.tree
  pub commit : new.commit ≡ old.commit
  pub codec : new.codec ≡ old.codec
