-- How the full database is opened again, at a lesser size, and what openings leave of any logs.
use Rattle.std.specs.Prelude.{◌≡◌, ◌⊎◌, ℕ, ◌<◌, max, List, [], ◌∷◌, Option, Some, None, slice_get}
use Rattle.codec_base.specs.Parts.{admits_bytes}
use Rattle.volume_base.specs.Log.{Log, end_of, no_log, appended, cut_to}
use Rattle.journal_base.specs.Items.{Items}
use Rattle.tree_shape.specs.Mmr.{mmr}
use Rattle.tree_shape.specs.Sha256Codec.{bytes_of, IsDigest}
use Rattle.tree_shape.specs.declared.mmr.Mmr.{Mmr}
use Rattle.tree_shape.specs.declared.sha256.Sha256Digest.{Sha256Digest}
use Rattle.auth_journal.specs.Searching.{EndsAt}
use Rattle.op_codec.specs.Keyless.{parts, variable_admits}
use Rattle.log_model.specs.Witness.{witness_text}
use Rattle.keyless_db.specs.Opening.{IsSaidCommit, GoesOn}
use Rattle.witness_store.specs.Selected.{IsSelected}
use Rattle.witness_store.specs.declared.witness.Witness.{Witness}
use Rattle.compact_db.specs.Opening.{witnesses_in}
use Rattle.list_machine.specs.Config.{Config}
use Rattle.list_machine.specs.Operation.{Operation, meaning, sha}
use Rattle.list_machine.specs.Step.{plain_commit}
use Rattle.twin_databases.specs.FullKind.{full_end}

-- A list whose log begins here is opened again at this size: the log begins before it, a commit ends there, and each
-- value has at most the configuration's length.
pub record OpensAgain (config : Config) (start size : ℕ) (list : List Operation) : Type 0 where
  pub later : start < size
  pub ends : full_end (Some size) list ≡ size
  pub allowed : (i : ℕ) (op : Operation) → slice_get list i ≡ Some op
      → variable_admits (admits_bytes config.value_limit) (parts op)

-- ---- on any contents

-- The operations of a log, with values of at most this length.
abbrev pub operations_in : ℕ → Log → Items Operation
operations_in limit log = record {
  log = log;
  spelling = meaning.encoding;
  admits = λ op. variable_admits (admits_bytes limit) (parts op);
}

-- Under a cap, or none, a log of operations is opened at this size. It is cut behind its last commit within the cap;
-- where it begins at 0 and has none there, it is cut to nothing and gets the first commit. It isn't empty past 0.
pub record KeepsOperations (limit : ℕ) (cap : Option ℕ) (size : ℕ) (old new : Log) : Type 0 where
  pub end : ℕ
  pub ends : EndsAt (operations_in limit old) (IsSaidCommit meaning) cap end
  pub sized : size ≡ max end 1
  pub later : old.start < size
  pub goes_on : GoesOn (meaning.encoding plain_commit) end (cut_to old end) new

-- Under a cap, or none, a log of witnesses is cut behind one within the cap, which is of this size; the next one isn't
-- within it, or there is none. Where their sizes rise it is the last one within the cap.
pub record IsCutBehind (cap : Option ℕ) (size : ℕ) (old new : Log) : Type 0 where
  pub end : ℕ
  pub witness : Witness Mmr Sha256Digest
  pub chosen : IsSelected (witnesses_in bytes_of IsDigest old) old.start (end_of old) cap (end, witness)
  pub sized : witness.size ≡ size
  pub cut : new ≡ cut_to old end

-- A log that was empty from 0 on has the witness of the first commit, at this size.
pub record GetsFirstWitness (size : ℕ) (old new : Log) : Type 0 where
  pub none : old ≡ no_log
  pub sized : size ≡ 1
  pub begun : new ≡ appended no_log (witness_text mmr sha meaning bytes_of (plain_commit ∷ []) 1 ∷ [])

-- Under a cap, or none, a log of witnesses is opened at this size, which isn't 0: it is cut behind one within the cap;
-- or it was empty from 0 on, and gets the first commit's.
pub record KeepsWitnesses (cap : Option ℕ) (size : ℕ) (old new : Log) : Type 0 where
  pub some : 0 < size
  pub kept : IsCutBehind cap size old new ⊎ GetsFirstWitness size old new

-- A log of witnesses is opened under the size at which this log of operations is opened without a cap.
pub record FollowsOperations (limit size : ℕ) (operations old new : Log) : Type 0 where
  pub end : ℕ
  pub ends : EndsAt (operations_in limit operations) (IsSaidCommit meaning) None end
  pub kept : KeepsWitnesses (Some (max end 1)) size old new
