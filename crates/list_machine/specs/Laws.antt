-- Laws of whole runs, and of a refusal.
use Rattle.std.specs.Prelude.{◌≡◌, ℕ, ◌-◌, ◌<◌, Bool, true, false, List, [], ◌++◌, length, take, slice_get, Some, if◌then◌else◌}
use Rattle.std.specs.List.Sorted.{IsNonDecreasingBy}
use Rattle.volume_base.specs.Moments.{Image}
use Rattle.std.specs.declared.num.NonZeroU64.{NonZeroU64}
use Rattle.tree_shape.specs.Mmr.{mmr}
use Rattle.tree_shape.specs.declared.bagging.Bagging.TheVariants.{ForwardFold}
use Rattle.tree_proof.specs.Check.{Checks}
use Rattle.log_model.specs.Good.{AnyList}
use Rattle.log_model.specs.StateBatches.{Gone}
use Rattle.log_model.specs.Machine.{State, with_batch, synced}
use Rattle.command_text.specs.declared.command.Command.{Command}
use Rattle.command_text.specs.declared.command.Command.TheVariants as command
use Rattle.command_text.specs.declared.command.Answer.TheVariants as answer
use Rattle.log_model.specs.declared.refusal.Refusal.{Refusal}
use Rattle.log_model.specs.declared.refusal.Refusal.TheVariants as refusal
use Rattle.command_text.specs.declared.command.ProofAnswer.{ProofAnswer}
use Rattle.command_text.specs.declared.command.Reply.{Reply}
use Rattle.list_machine.specs.Config.{Config}
use Rattle.list_machine.specs.Operation.{Operation, sha}
use Rattle.list_machine.specs.Step.{step, root_of_list}
use Rattle.list_machine.specs.GoodRuns.{IsGoodState}
use Rattle.list_machine.specs.Starts.{HoldsLog, HoldsWitnesses, opened_from}
use Rattle.list_machine.specs.Trace.{trace, replies_from, state_after}

-- The sizes in the replies of a run never fall.
abbrev pub SizesNeverFall : Type 0
SizesNeverFall =
    (config : Config) (s : State Operation) (cs : List Command)
    → IsNonDecreasingBy (λ (r : Reply). r.size) (trace config s cs)

-- A reply tells the size and the root of a list.
pub record TellsList (r : Reply) (list : List Operation) : Type 0 where
  pub size : r.size ≡ length list
  pub full : r.full_root ≡ root_of_list list
  pub compact : r.compact_root ≡ root_of_list list

-- The size and the roots of each reply of a run are those of the list after the commands up to it.
abbrev pub RepliesTellLists : Type 0
RepliesTellLists = (config : Config) (s : State Operation) (cs : List Command) (i : ℕ) (r : Reply)
    → slice_get (trace config s cs) i ≡ Some r → TellsList r (state_after config s (take i cs)).ops

-- A run of two lists of commands is the run of the first, continued by the second.
abbrev pub RunsContinue : Type 0
RunsContinue = (config : Config) (s : State Operation) (cs ds : List Command)
    → trace config s (cs ++ ds) ≡ trace config s cs ++ replies_from config (state_after config s cs) ds

-- A seal that is refused for this reason loses its batch.
abbrev pub loses_batch : Refusal → Bool
loses_batch refusal.StaleBatch = true
loses_batch (refusal.LocationOverflow n) = true
loses_batch (refusal.FloorRegressed floor below) = true
loses_batch (refusal.FloorBeyondSize floor location) = true
loses_batch _ = false

-- What a refused command leaves: the state as it was, but for the batch that a seal loses.
abbrev pub after_refusal : State Operation → Command → Refusal → State Operation
after_refusal s (command.Seal b metadata floor) r = if loses_batch r then with_batch s b Gone else s
after_refusal s _ r = s

-- A refused command changes nothing; a seal that is refused as stale, for its location or for its floor loses its
-- batch.
abbrev pub RefusalsKeep : Type 0
RefusalsKeep = (config : Config) (s : State Operation) (c : Command) (r : Refusal)
    → (step config s c).0 ≡ answer.Refused r
    → (step config s c).1 ≡ after_refusal s c r

-- Of two states both have the list, its applied sizes and the batches.
pub record KeepsLists (s t : State Operation) : Type 0 where
  pub ops : t.ops ≡ s.ops
  pub sizes : t.sizes ≡ s.sizes
  pub batches : t.batches ≡ s.batches

-- What is made durable or given up changes no list.
pub record StorageKeepsLists : Type 0 where
  pub commit : (config : Config) (s : State Operation) → KeepsLists s (step config s command.Commit).1
  pub sync : (config : Config) (s : State Operation) → KeepsLists s (step config s command.Sync).1
  pub start_sync : (config : Config) (s : State Operation) → KeepsLists s (step config s command.StartSync).1
  pub prune : (config : Config) (s : State Operation) (l : ℕ) → KeepsLists s (step config s (command.Prune l)).1

-- A command keeps each state.
abbrev pub KeepsStates : Command → Type 0
KeepsStates c = (config : Config) (s : State Operation) → (step config s c).1 ≡ s

-- A question changes nothing, whatever it answers.
pub record QuestionsKeep : Type 0 where
  pub get : (l : ℕ) → KeepsStates (command.Get l)
  pub get_many : (ls : List ℕ) → KeepsStates (command.GetMany ls)
  pub batch_get : (b l : ℕ) → KeepsStates (command.BatchGet b l)
  pub batch_get_many : (b : ℕ) (ls : List ℕ) → KeepsStates (command.BatchGetMany b ls)
  pub size : KeepsStates command.Size
  pub metadata : KeepsStates command.Metadata
  pub proof : (n a : ℕ) (count : NonZeroU64) → KeepsStates (command.Proof n a count)
  pub commit_proof : (n : ℕ) → KeepsStates (command.CommitProof n)

-- A proof that is answered begins at the location that was asked for, and shows its operations in the tree with the
-- root that the list had at the size.
abbrev pub ProofsVerify : Type 0
ProofsVerify = (config : Config) (s : State Operation) (n a : ℕ) (count : NonZeroU64) (p : ProofAnswer)
    → IsGoodState AnyList config.value_limit s → (step config s (command.Proof n a count)).0 ≡ answer.Proof p
    → (p.start ≡ a) × Checks mmr sha ForwardFold p.proof a p.operations (root_of_list (take n s.ops))

-- So does a proof of the commit that ends a size.
abbrev pub CommitProofsVerify : Type 0
CommitProofsVerify = (config : Config) (s : State Operation) (n : ℕ) (p : ProofAnswer)
    → IsGoodState AnyList config.value_limit s → (step config s (command.CommitProof n)).0 ≡ answer.Proof p
    → (p.start ≡ n - 1) × Checks mmr sha ForwardFold p.proof (n - 1) p.operations (root_of_list (take n s.ops))

-- Where the commit is kept in the operation log, it is what a proof from the commit on answers.
abbrev pub CommitProofsAreProofs : Type 0
CommitProofsAreProofs = (config : Config) (s : State Operation) (n : ℕ) (count : NonZeroU64) (p : ProofAnswer)
    → IsGoodState AnyList config.value_limit s → s.start < n
    → (step config s (command.CommitProof n)).0 ≡ answer.Proof p
    → (step config s (command.Proof n (n - 1) count)).0 ≡ answer.Proof p

-- The state in which a run that ended in this one is opened again: all is durable, and there are no batches.
abbrev pub last_state : State Operation → State Operation
last_state s = record (synced s) { batches = [] }

-- What is opened of logs that hold what is kept of a good state, as a whole run leaves them, is that state.
abbrev pub LeftStatesReopen : Type 0
LeftStatesReopen = (config : Config) (s : State Operation) (image : Image) → IsGoodState AnyList config.value_limit s
    → HoldsLog config image s → HoldsWitnesses config image s → opened_from config s image ≡ last_state s
