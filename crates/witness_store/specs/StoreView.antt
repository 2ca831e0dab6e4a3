-- What a store of witnesses tells of itself, and what a volume has of its log.
use Rattle.std.specs.Prelude.{◌≡◌, ◌⊎◌, ℕ, Bool, true, false, max, List, [], ◌∷◌, map}
use Rattle.journal_base.specs.View.{View, IsDurable}
use Rattle.volume_base.specs.Bounds.{IsPartOf}
use Rattle.volume_base.specs.Log.{Log, cleared_at, appended}
use Rattle.volume_base.specs.Volume.{State}
use Rattle.witness_store.specs.Witness.{text_of}
use Rattle.witness_store.specs.declared.witness.Witness.{Witness}

-- Its log, and whether a witness may not be durable.
pub record StoreView : Type 0 where
  pub log : View (Unit {0})
  pub uncommitted : Bool

-- A failed sync that is kept leaves witnesses that may not be durable.
abbrev pub MarksFailure : StoreView → Type 0
MarksFailure store = store.log.failed ≡ true → store.uncommitted ≡ true

-- Where every witness is taken to be durable, a crash now leaves the log as it is.
abbrev pub IsSettled : StoreView → State → Type 0
IsSettled store state = store.uncommitted ≡ false → IsDurable store.log state

-- The log has these witnesses from its start to its end. Its start is at most the one bound, and its end at least the other.
abbrev pub HasWitnesses : {F D : Type 0} → (D → List ℕ) → List (Witness F D) → ℕ → ℕ → Log → Type 0
HasWitnesses spelling ws greatest least log = IsPartOf (map (text_of spelling) ws) greatest least log

-- An import has its one witness behind an empty log: where the old log ends, or at 1 where that is 0.
abbrev pub import_place : ℕ → ℕ
import_place end = max end 1

-- The log is empty at a place, or has one text there.
abbrev pub IsRestarted : ℕ → List ℕ → Log → Type 0
IsRestarted place text log = (log ≡ cleared_at place) ⊎ (log ≡ appended (cleared_at place) (text ∷ []))

-- The image stays, or is an empty log at a place, or that with one text behind it.
abbrev pub Restarts : ℕ → List ℕ → Log → Log → Type 0
Restarts place text old new = (new ≡ old) ⊎ IsRestarted place text new
