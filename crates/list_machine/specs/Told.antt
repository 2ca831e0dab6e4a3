-- What size and root tell of the lists of a state.
use Rattle.std.specs.Prelude.{◌≡◌, ℕ, List, Contains}
use Rattle.log_model.specs.StateBatches.{UnsealedBatch, SealedBatch, Unsealed, Sealed}
use Rattle.log_model.specs.Good.{HasParent}
use Rattle.log_model.specs.Hashed.{NoClash}
use Rattle.log_model.specs.Machine.{State, batch_at}
use Rattle.log_model.specs.Reach.{may_seal, may_apply, may_read_sealed, may_read_unsealed}
use Rattle.tree_shape.specs.Mmr.{mmr}
use Rattle.list_machine.specs.Operation.{Operation, meaning, sha, one_list}
use Rattle.list_machine.specs.Commitments.{same_state}
use Rattle.list_machine.specs.GoodRuns.{IsGoodState}

-- By size and root, each batch of a state may be sealed, applied and read exactly where it may by operations; and it
-- stands on its parent's list.
pub record IsTold (s : State Operation) : Type 0 where
  pub seals : (b : ℕ) (u : UnsealedBatch Operation) → batch_at s b ≡ Unsealed u
      → may_seal same_state s u ≡ may_seal one_list s u
  pub applies : (b : ℕ) (c : SealedBatch Operation) → batch_at s b ≡ Sealed c
      → may_apply same_state s c ≡ may_apply one_list s c
  pub sealed_reads : (b : ℕ) (c : SealedBatch Operation) → batch_at s b ≡ Sealed c
      → may_read_sealed same_state s c ≡ may_read_sealed one_list s c
  pub unsealed_reads : (b : ℕ) (u : UnsealedBatch Operation) → batch_at s b ≡ Unsealed u
      → may_read_unsealed same_state s u ≡ may_read_unsealed one_list s u
  pub parents : (b : ℕ) → HasParent s b (batch_at s b)

-- So it is in a good state whose lists are among some of which nothing clashes that is hashed for them.
abbrev pub StatesAreTold : ℕ → Type 0
StatesAreTold limit =
    (lists : List (List Operation)) (s : State Operation) → NoClash mmr sha meaning lists
    → IsGoodState (Contains lists) limit s → IsTold s
