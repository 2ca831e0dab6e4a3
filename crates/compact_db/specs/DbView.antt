-- What a compact database tells of itself.
use Rattle.std.specs.Prelude.{◌≡◌, ℕ, ◌<◌, Bool, true, false, List, [], ◌∷◌}
use Rattle.journal_base.specs.View.{View, config_of}
use Rattle.tree_shape.specs.Hashing.{Hashing}
use Rattle.tree_shape.specs.Shape.{Shape}
use Rattle.tree_core.specs.Tree.{Tree}
use Rattle.merkle_compact.specs.Frontier.{IsFrontier}
use Rattle.log_model.specs.Meaning.{Meaning}
use Rattle.log_model.specs.Operations.{floor_of}
use Rattle.chain_core.specs.declared.bounds.Bounds.{Bounds}
use Rattle.chain_core.specs.declared.commitment.Commitment.{Commitment}
use Rattle.compact_db.specs.StateOf.{IsStateOf}
use Rattle.compact_db.specs.declared.database.WitnessLog.{WitnessLog}
use Rattle.compact_db.specs.declared.database.WitnessLog.TheVariants.{Open, Import}
use Rattle.compact_db.specs.declared.verified.VerifiedWitness.{VerifiedWitness}

-- Its witness log, what is derived of its last witness, its tree, its last commit, and what a commit may be.
pub record DbView (F D Op Cfg : Type 0) : Type 0 where
  pub log : WitnessLog F D
  pub tip : VerifiedWitness F D
  pub tree : Tree D
  pub commit : Op
  pub codec : Cfg

-- The tree is as long as the last witness says, and has operations; it keeps its peaks alone.
pub record IsSoundDb {F D : Type 0} (s : Shape) (tip : VerifiedWitness F D) (tree : Tree D) : Type 0 where
  pub size : tree.leaves ≡ tip.witness.size
  pub some : 0 < tree.leaves
  pub frontier : IsFrontier s tree

module _ {F D Op Cfg : Type 0} where
  -- Its state, by size and root.
  abbrev pub commitment_in : DbView F D Op Cfg → Commitment F D
  commitment_in db = record { size = db.tip.witness.size; root = db.tip.root }

  -- The floor of its last commit.
  abbrev pub floor_in : {V : Type 0} → Meaning Op V → DbView F D Op Cfg → ℕ
  floor_in m db = floor_of m (db.commit ∷ [])

  -- The states of a batch of this state, which has no operations of its own.
  abbrev pub snapshot_of : {V : Type 0} → Meaning Op V → DbView F D Op Cfg → Bounds F D
  snapshot_of m db = record {
    base = commitment_in db;
    db = commitment_in db;
    tip = commitment_in db;
    ancestors = [];
    inactivity_floor = floor_in m db;
  }

  -- It is the database of this list.
  abbrev pub IsOfList : {V : Type 0} → Shape → Hashing D → Meaning Op V → List Op → DbView F D Op Cfg → Type 0
  IsOfList s h m list db = IsStateOf s h m list db.tip db.tree db.commit

-- ---- the witness log

module _ {F D : Type 0} where
  -- its name and bounds; of an import that waits, no bounds yet
  abbrev pub seen_log : WitnessLog F D → View (Unit {0})
  seen_log (Open store) = store.log
  seen_log (Import cfg) = config_of cfg

  -- whether an import waits to be written
  abbrev pub waits : WitnessLog F D → Bool
  waits (Open store) = false
  waits (Import cfg) = true

  -- whether a witness may not be durable
  abbrev pub is_uncommitted : WitnessLog F D → Bool
  is_uncommitted (Open store) = store.uncommitted
  is_uncommitted (Import cfg) = true
