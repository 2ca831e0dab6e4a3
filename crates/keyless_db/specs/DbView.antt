-- What a database tells of itself, and of which list it is.
use Rattle.std.specs.Prelude.{◌≡◌, ℕ, ◌-◌, ◌^◌, ◌<◌, ◌≤◌, List, [], ◌∷◌, length, Some, slice_get}
use Rattle.volume_base.specs.Moments.{Image}
use Rattle.tree_shape.specs.Hashing.{Hashing}
use Rattle.tree_shape.specs.Shape.{Shape}
use Rattle.tree_shape.specs.declared.bagging.Bagging.TheVariants.{ForwardFold}
use Rattle.auth_journal.specs.Joined.{Joined, IsJoinedOf}
use Rattle.log_model.specs.Good.{EndsWithCommit}
use Rattle.log_model.specs.Meaning.{Meaning}
use Rattle.log_model.specs.Operations.{floor_of}
use Rattle.chain_core.specs.States.{commitment_of}
use Rattle.chain_core.specs.declared.bounds.Bounds.{Bounds}
use Rattle.chain_core.specs.declared.commitment.Commitment.{Commitment}

-- Its log of operations with their tree, its state by size and root, and its last commit.
pub record DbView (F D Op Cfg : Type 0) : Type 0 where
  pub journal : Joined D Cfg
  pub state : Commitment F D
  pub commit : Op

-- The tree is as long as the state says, and its peaks are folded forward.
pub record IsSoundDb {F D Cfg : Type 0} (journal : Joined D Cfg) (state : Commitment F D) : Type 0 where
  pub size : journal.tree.tree.leaves ≡ state.size
  pub few : state.size ≤ 2 ^ 62
  pub folded : journal.bagging ≡ ForwardFold

-- But for its log and its tree it is the same database.
pub record SameState {F D Op Cfg : Type 0} (old new : DbView F D Op Cfg) : Type 0 where
  pub state : new.state ≡ old.state
  pub commit : new.commit ≡ old.commit

-- It is the last of these operations; where there are none, the one of before.
pub record EndsAs {Op : Type 0} (own : List Op) (before op : Op) : Type 0 where
  pub some : 0 < length own → slice_get own (length own - 1) ≡ Some op
  pub none : length own ≡ 0 → op ≡ before

module _ {F D Op Cfg V : Type 0} (m : Meaning Op V) where
  -- The floor of its last commit.
  abbrev pub floor_in : DbView F D Op Cfg → ℕ
  floor_in db = floor_of m (db.commit ∷ [])

  -- The states of a batch of this state, which has no operations of its own.
  abbrev pub snapshot_of : DbView F D Op Cfg → Bounds F D
  snapshot_of db = record {
    base = db.state;
    db = db.state;
    tip = db.state;
    ancestors = [];
    inactivity_floor = floor_in db;
  }

module _ {F D Op V Cfg : Type 0} (s : Shape) (h : Hashing D) (m : Meaning Op V) where
  -- In memory it is the database of this list, which a commit ends.
  pub record IsDbOf (ops : List Op) (db : DbView F D Op Cfg) : Type 0 where
    pub ends : EndsWithCommit m ops
    pub few : length ops ≤ 2 ^ 62
    pub state_is : db.state ≡ commitment_of s h m ops
    pub commit_is : slice_get ops (length ops - 1) ≡ Some db.commit

  -- It is the database of this list, and the volume holds it: the log is a run of the list, with the list's tree
  -- beside it, whose nodes are kept from where the log begins on.
  pub record IsHeldFor (digest : D → List ℕ) (admits : D → Type 0) (spelling : Op → List ℕ) (ops : List Op)
      (db : DbView F D Op Cfg) (image : Image) : Type 0 where
    pub db_of : IsDbOf ops db
    pub journal : IsJoinedOf s h digest admits spelling ops db.journal image
    pub low : db.journal.tree.boundary ≤ db.journal.items.start
