-- At which state a database is opened.
use Rattle.std.specs.Prelude.{◌≡◌, ◌⊎◌, ℕ, ◌-◌, ◌^◌, ◌<◌, ◌≤◌, Bool, true, List, [], ◌∷◌, take, Option, Some, None, is_some, Result}
use Rattle.volume_base.specs.Log.{Log, end_of, appended}
use Rattle.volume_base.specs.Moments.{Image, NamesLeft, Now, Steps}
use Rattle.volume_base.specs.Names.{two_logs_and_map}
use Rattle.volume_base.specs.Volume.{Map, State}
use Rattle.volume_base.specs.declared.error.JournalError.TheVariants.{ItemPruned}
use Rattle.journal_base.specs.Items.{Items}
use Rattle.journal_base.specs.Matches.{IsAnswered}
use Rattle.tree_shape.specs.Hashing.{Hashing}
use Rattle.tree_shape.specs.Shape.{Shape}
use Rattle.tree_store.specs.declared.error.Error.TheVariants.{LocationOverflow}
use Rattle.auth_journal.specs.Errors.{IsLifted}
use Rattle.auth_journal.specs.Joined.{Joined, IsJoinedOf}
use Rattle.auth_journal.specs.Opening.{NotOpened}
use Rattle.auth_journal.specs.Searching.{EndsAt}
use Rattle.auth_journal.specs.Standing.{Marks, NamesStand, all_synced}
use Rattle.log_model.specs.Meaning.{Meaning}
use Rattle.chain_core.specs.Answers.{IsOutside}
use Rattle.chain_core.specs.declared.error.Error.{Error}
use Rattle.chain_core.specs.declared.error.Error.TheVariants.{DataCorrupted, Journal, Merkle}
use Rattle.chain_core.specs.declared.error.DataFault.TheVariants.{NotACommit}
use Rattle.keyless_db.specs.Errors.{IsFromJoined}
use Rattle.keyless_db.specs.DbView.{DbView, IsHeldFor}

-- Whether an operation is said to be a commit, as it is.
abbrev pub IsSaidCommit : {Op V : Type 0} → Meaning Op V → Op → Bool → Type 0
IsSaidCommit m op is = is ≡ is_some (m.floor op)

-- The item before this end is a commit, or no item stands before it.
abbrev pub EndsHere : {Op V : Type 0} → Meaning Op V → Items Op → ℕ → Type 0
EndsHere m items end = IsAnswered items (IsSaidCommit m) (end - 1) true ⊎ (items.log.start ≡ end)

-- Why there is no database of a journal that was opened between these bounds: by the outside; or it has too many
-- operations; or the log is empty past 0.
abbrev pub NotBuilt : {F : Type 0} → ℕ → ℕ → Error F → Type 0
NotBuilt start end e =
    IsOutside e
    ⊎ (((2 ^ 62 < end) × (e ≡ Merkle (LocationOverflow end)))
    ⊎ ((start ≡ end) × (0 < end) × (e ≡ Journal (ItemPruned (end - 1)))))

-- An error of an opening, whatever the volume holds: one of the journal's, which wraps neither want of memory nor a
-- failure of the volume; or that the last operation is no commit.
abbrev pub IsOfOpening : {F : Type 0} → Error F → Type 0
IsOfOpening e = (e ≡ DataCorrupted NotACommit) ⊎ IsFromJoined IsLifted e

-- Why no database is opened of these contents under a cap, or none: by the outside; or as the journal; or, without a
-- cap, an empty log stands past 0.
abbrev pub NotListed : {F D Op V : Type 0} → Type 0 → (D → List ℕ) → (D → Type 0) → Shape → Map → Log → Items Op
    → Meaning Op V → Option ℕ → Error F → Type 0
NotListed tells spelling admits s m log items meaning cap e =
    IsOutside e
    ⊎ (IsFromJoined (NotOpened tells spelling admits s m log items (IsSaidCommit meaning) cap) e
    ⊎ ((cap ≡ None) × (items.log.start ≡ end_of items.log) × (0 < end_of items.log)
    × (e ≡ Journal (ItemPruned (end_of items.log - 1)))))

-- Under a cap, or none, a log has an end at which it is opened, and isn't empty past 0. So many leaves' nodes are
-- durable: those before its start at least, and none past that end.
pub record HasOpening {Op V : Type 0} (m : Meaning Op V) (items : Items Op) (cap : Option ℕ) (durable : ℕ)
    : Type 0 where
  pub end : ℕ
  pub ends : EndsAt items (IsSaidCommit m) cap end
  pub some : (items.log.start < end) ⊎ (end ≡ 0)
  pub low : items.log.start ≤ durable
  pub reached : durable ≤ end

-- At each end at which a log is opened under a cap, or none, it keeps all that is durable.
abbrev pub KeepsDurable : {Op V : Type 0} → Meaning Op V → Items Op → Option ℕ → Marks → Type 0
KeepsDurable m items cap marks =
    (end : ℕ) → EndsAt items (IsSaidCommit m) cap end → (marks.durable ≤ end) × (marks.node_durable ≤ end)

-- It is opened past 0 alone.
abbrev pub EndsPast : {Op V : Type 0} → Meaning Op V → Items Op → Option ℕ → Type 0
EndsPast m items cap = (end : ℕ) → EndsAt items (IsSaidCommit m) cap end → 0 < end

-- The first commit of a log: its floor is 0, and it has no metadata.
pub record IsFirstCommit {Op V : Type 0} (m : Meaning Op V) (op : Op) : Type 0 where
  pub floored : m.floor op ≡ Some 0
  pub valued : m.value op ≡ None

-- Of a journal that ends here the database is at that size; at 0 it has the first commit alone.
abbrev pub IsBuiltAt : {F D Op Cfg : Type 0} → Op → ℕ → DbView F D Op Cfg → Type 0
IsBuiltAt first end db = ((0 < end) × (db.state.size ≡ end)) ⊎ ((end ≡ 0) × (db.state.size ≡ 1) × (db.commit ≡ first))

-- A log that ends here stays; at 0 it gets this item.
abbrev pub GoesOn : List ℕ → ℕ → Log → Log → Type 0
GoesOn first end old new = ((0 < end) × (new ≡ old)) ⊎ ((end ≡ 0) × (new ≡ appended old (first ∷ [])))

module _ {D Op Cfg : Type 0} (s : Shape) (h : Hashing D) (digest : D → List ℕ) (admits : D → Type 0) (spelling : Op → List ℕ) where
  -- The journal is that of a list's operations up to its end, and its tree isn't pruned past its log.
  pub record IsOpenedOf (list : List Op) (j : Joined D Cfg) (image : Image) : Type 0 where
    pub joined : IsJoinedOf s h digest admits spelling (take j.items.end list) j image
    pub low : j.tree.boundary ≤ j.items.start

module _ {F D Op V Cfg : Type 0} (s : Shape) (h : Hashing D) (m : Meaning Op V) (digest : D → List ℕ) (admits : D → Type 0) (spelling : Op → List ℕ) where
  -- Of a journal that ends here the database is that of a list's operations up to there; at 0 it is that of the first
  -- commit alone.
  abbrev pub IsHeldFrom : List Op → ℕ → DbView F D Op Cfg → Image → Type 0
  IsHeldFrom list end db image =
      ((0 < end) × (db.state.size ≡ end) × IsHeldFor s h m digest admits spelling (take end list) db image)
      ⊎ ((end ≡ 0) × IsFirstCommit m db.commit × IsHeldFor s h m digest admits spelling (db.commit ∷ []) db image)

  -- Of a list of which a log has these items: behind the last commit under a cap, or none, it is that of the list up to
  -- there; where the log begins at 0 and there is none, that of the first commit alone.
  abbrev pub IsInitOf : Items Op → Option ℕ → List Op → DbView F D Op Cfg → Image → Type 0
  IsInitOf items cap list db image =
      (EndsAt items (IsSaidCommit m) cap db.state.size
      × IsHeldFor s h m digest admits spelling (take db.state.size list) db image)
      ⊎ (EndsAt items (IsSaidCommit m) cap 0 × IsFirstCommit m db.commit
      × IsHeldFor s h m digest admits spelling (db.commit ∷ []) db image)

module _ {D Op : Type 0} (s : Shape) (h : Hashing D) (digest : D → List ℕ) (spelling : Op → List ℕ) (first : Op)
    (marks : Marks) (items nodes metadata : List ℕ) where
  -- Whatever a crash leaves of two logs and a map stands for these operations.
  abbrev StandNow : List Op → State → Type 0
  StandNow list now =
      Now (NamesLeft (two_logs_and_map items nodes metadata))
      (NamesStand s h digest spelling list marks items nodes metadata) now

  module _ {T E : Type 0} where
    -- A call takes it to this commit alone: it stands for that at each moment, and from a turn on that is durable.
    abbrev StandsAlone : State → State → Result T E → Type 0
    StandsAlone old new result =
        Steps (NamesLeft (two_logs_and_map items nodes metadata))
        (NamesStand s h digest spelling (first ∷ []) marks items nodes metadata)
        (NamesStand s h digest spelling (first ∷ []) (all_synced 1 marks) items nodes metadata) old new result

    -- So it does where that stands for no operation,
    abbrev pub BeginsStanding : State → State → Result T E → Type 0
    BeginsStanding old new result = StandNow [] old → StandsAlone old new result

    -- or may have this commit already, though the log has it not.
    abbrev pub BecomesStanding : State → State → Result T E → Type 0
    BecomesStanding old new result = StandNow (first ∷ []) old → StandsAlone old new result
