-- Why a witness doesn't rebuild.
use Rattle.std.specs.Prelude.{◌≡◌, ◌⊎◌, ℕ, ◌-◌, ◌^◌, ◌==◌, ◌&&◌, nat_le, nat_lt, Bool, List, length, Option, Some, None, Result, Ok, Err, IfErr, if◌then◌else◌}
use Rattle.codec_base.specs.declared.error.CodecError.{CodecError}
use Rattle.tree_shape.specs.Shape.{Shape}
use Rattle.log_model.specs.Meaning.{Meaning}
use Rattle.chain_core.specs.declared.error.Error.{Error}
use Rattle.chain_core.specs.declared.error.Error.TheVariants.{DataCorrupted, Memory}
use Rattle.chain_core.specs.declared.error.DataFault.TheVariants as fault
use Rattle.witness_store.specs.declared.witness.Witness.{Witness}

-- It is refused only as this says, or for want of memory.
abbrev pub RefusedOnlyAs : {F T U : Type 0} → Result U (Error F) → Result T (Error F) → Type 0
RefusedOnlyAs answer result = IfErr result (λ e. (answer ≡ Err e) ⊎ (e ≡ Memory))

-- The operation that was decoded, or that the bytes are none's.
abbrev pub operation_answer : {F Op : Type 0} → Result Op CodecError → Result Op (Error F)
operation_answer (Err e) = Err (DataCorrupted fault.CommitOperation)
operation_answer (Ok op) = Ok op

module _ {F D Op V : Type 0} (s : Shape) (m : Meaning Op V) where
  -- Whether a commit of this floor may stand behind the tree of a witness: it is no later, and the tree has as many
  -- peaks as there are pins.
  abbrev pub fits_witness : Witness F D → ℕ → Bool
  fits_witness w floor = nat_le floor (w.size - 1) && (length w.pinned_nodes == length (s.heights (w.size - 1)))

  abbrev pub commit_answer : Witness F D → Op → Option ℕ → Result Op (Error F)
  commit_answer w op None = Err (DataCorrupted fault.NotACommit)
  commit_answer w op (Some floor) = if fits_witness w floor then Ok op else Err (DataCorrupted fault.Witness)

  abbrev pub decoded_answer : Witness F D → Result Op CodecError → Result Op (Error F)
  decoded_answer w (Err e) = Err (DataCorrupted fault.CommitOperation)
  decoded_answer w (Ok op) = commit_answer w op (m.floor op)

  -- The commit of a witness, or why it doesn't rebuild: its size is that of no list that ends with a commit; its
  -- bytes are no operation's; that is no commit; or the commit is earlier than its floor, or the pins are more or
  -- fewer than the peaks before it. The first test that fails answers.
  abbrev pub rebuild_answer : (List ℕ → Result Op CodecError) → Witness F D → Result Op (Error F)
  rebuild_answer decoded w =
      if nat_lt 0 w.size && nat_le w.size (2 ^ 62) then decoded_answer w (decoded w.op_bytes)
      else Err (DataCorrupted fault.Witness)
