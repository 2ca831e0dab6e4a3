-- Why a state isn't imported, and where a database has its witnesses.
use Rattle.std.specs.Prelude.{ℕ, ◌^◌, ◌==◌, nat_lt, nat_le, length, Option, Some, None, Result, Ok, Err, if◌then◌else◌}
use Rattle.journal_base.specs.declared.journal.JournalConfig.{JournalConfig}
use Rattle.tree_shape.specs.Shape.{Shape}
use Rattle.tree_store.specs.declared.error.Error.TheVariants as tree_error
use Rattle.log_model.specs.Meaning.{Meaning}
use Rattle.chain_core.specs.declared.error.Error.{Error}
use Rattle.chain_core.specs.declared.error.Error.TheVariants.{UnexpectedData, DataCorrupted, Merkle}
use Rattle.chain_core.specs.declared.error.DataFault.TheVariants as fault
use Rattle.compact_db.specs.declared.database.CompactConfig.{CompactConfig}

-- The configuration of the witness log.
abbrev pub journal_of : {C : Type 0} → CompactConfig C → JournalConfig (Unit {0})
journal_of cfg = record { name = cfg.witness; items_per_blob = cfg.items_per_blob; codec = tt }

module _ {F Op V : Type 0} (s : Shape) (m : Meaning Op V) where
  -- Whether so many pins stand for the tree before a commit at this location.
  abbrev pub pins_answer : ℕ → ℕ → Result (Unit {0}) (Error F)
  pins_answer loc pins =
      if nat_lt loc (2 ^ 62) then
      (if pins == length (s.heights loc) then Ok tt else Err (Merkle tree_error.InvalidPinnedNodes))
      else Err (Merkle (tree_error.LocationOverflow loc))

  abbrev pub floor_answer : ℕ → ℕ → Option ℕ → Result (Unit {0}) (Error F)
  floor_answer loc pins None = Err (UnexpectedData loc)
  floor_answer loc pins (Some floor) =
      if nat_le floor loc then pins_answer loc pins else Err (DataCorrupted fault.Witness)

  -- Whether an operation at this location, with so many pins before it, is a state: it is a commit, no earlier than
  -- its floor; a tree has such a location; and there are as many pins as peaks. The first test that fails answers.
  abbrev pub import_answer : ℕ → ℕ → Op → Result (Unit {0}) (Error F)
  import_answer loc pins op = floor_answer loc pins (m.floor op)
