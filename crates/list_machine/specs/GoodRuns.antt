-- Good states of the run.
use Rattle.std.specs.Prelude.{ℕ, ◌≤◌, List, Option, length, Contains}
use Rattle.log_model.specs.Good as good
use Rattle.log_model.specs.Good.{AnyList}
use Rattle.log_model.specs.Machine.{State, batch_at, lists_here}
use Rattle.command_text.specs.declared.command.Command.{Command}
use Rattle.list_machine.specs.Config.{Config}
use Rattle.list_machine.specs.Operation.{Operation, meaning}
use Rattle.list_machine.specs.Step.{Outcome, plain_commit, begin, append_to, seal, apply, hold, release, snapshot, get, get_many, batch_get, batch_get_many, size, metadata, prove, prove_commit, commit, sync, start_sync, prune}
use Rattle.list_machine.specs.Trace.{state_after, fresh_state}

-- A good state of which something is durable, and whose values and metadata have at most this length; the log's list,
-- each batch's, and each up to a base, a boundary or a tip are among these lists.
abbrev pub IsGoodState : (List Operation → Type 0) → ℕ → State Operation → Type 0
IsGoodState among limit s = good.IsGoodState meaning among (λ (v : List ℕ). length v ≤ limit) plain_commit s

-- The lists of a state are among these.
abbrev pub HasLists : (List Operation → Type 0) → State Operation → Type 0
HasLists among s = (list : List Operation) → Contains (lists_here s) list → among list

-- It makes a good state of a good state, whatever the lists are.
abbrev pub StaysGood : ℕ → (State Operation → Outcome) → Type 0
StaysGood limit f = (s : State Operation) → IsGoodState AnyList limit s → IsGoodState AnyList limit (f s).1

-- So does each kind of step.
pub record EachStaysGood (limit : ℕ) : Type 0 where
  pub new : (parent : Option ℕ) → StaysGood limit (λ s. begin s parent)
  pub append : (b : ℕ) (v : List ℕ) → StaysGood limit (λ s. append_to limit s b v (batch_at s b))
  pub seal : (b : ℕ) (m : Option (List ℕ)) (floor : ℕ) → StaysGood limit (λ s. seal limit s b m floor (batch_at s b))
  pub apply : (b : ℕ) → StaysGood limit (λ s. apply s b (batch_at s b))
  pub hold : (b : ℕ) → StaysGood limit (λ s. hold s b (batch_at s b))
  pub release : (b : ℕ) → StaysGood limit (λ s. release s b (batch_at s b))
  pub snapshot : StaysGood limit snapshot
  pub get : (l : ℕ) → StaysGood limit (λ s. get s l)
  pub get_many : (ls : List ℕ) → StaysGood limit (λ s. get_many s ls)
  pub batch_get : (b l : ℕ) → StaysGood limit (λ s. batch_get s b l (batch_at s b))
  pub batch_get_many : (b : ℕ) (ls : List ℕ) → StaysGood limit (λ s. batch_get_many s b ls (batch_at s b))
  pub size : StaysGood limit size
  pub metadata : StaysGood limit metadata
  pub proof : (n a count : ℕ) → StaysGood limit (λ s. prove s n a count)
  pub commit_proof : (n : ℕ) → StaysGood limit (λ s. prove_commit s n)
  pub commit : StaysGood limit commit
  pub sync : StaysGood limit sync
  pub start_sync : StaysGood limit start_sync
  pub prune : (log_blob witness_blob l : ℕ) → StaysGood limit (λ s. prune log_blob witness_blob s l)

abbrev pub StepsStayGood : Type 0
StepsStayGood = (limit : ℕ) → EachStaysGood limit

-- So the state in which a fresh volume is opened is good, and each state of a run from a good one on.
pub record RunsAreGood : Type 0 where
  pub fresh : (limit : ℕ) → IsGoodState AnyList limit fresh_state
  pub runs : (config : Config) (s : State Operation) (cs : List Command) → IsGoodState AnyList config.value_limit s
      → IsGoodState AnyList config.value_limit (state_after config s cs)
