-- Worked rows, stated in sizes and answers: what steps answer from the state in which a fresh volume is opened.
use Rattle.std.specs.Prelude.{◌≡◌, ℕ, ◌+◌, zero, suc, List, [], ◌∷◌, ◌++◌, Some, None}
use Rattle.std.specs.FinMap as finmap
use Rattle.volume_base.specs.Log.{no_log}
use Rattle.volume_base.specs.Moments.{Image}
use Rattle.log_model.specs.Machine.{State, batch_at, fresh}
use Rattle.log_model.specs.Opening.{opened, opens_at}
use Rattle.log_model.specs.Stored.{DatabaseNames}
use Rattle.log_model.specs.declared.refusal.Refusal.TheVariants.{NoBatch, ValueTooLong, StaleBatch, StaleRead, FloorRegressed, FloorBeyondSize, LocationOutOfOrder, LocationOutOfBounds, ItemPruned, PruneBeyondMinRequired, HistoricalFloorPruned}
use Rattle.op_codec.specs.declared.keyless.Operation.TheVariants.{Append, Commit}
use Rattle.command_text.specs.declared.command.Answer.{Answer}
use Rattle.command_text.specs.declared.command.Answer.TheVariants.{Batch, Done, Sealed, Applied, Value, Values, Size, Pruned, Refused}
use Rattle.list_machine.specs.Operation.{Operation}
use Rattle.list_machine.specs.Step as step
use Rattle.list_machine.specs.Step.{Outcome, root_of_list, plain_commit}
use Rattle.list_machine.specs.Trace.{fresh_state}

-- ---- steps, one after another

abbrev pub Step : Type 0
Step = State Operation → Outcome

abbrev pub answers : State Operation → List Step → List Answer
answers s [] = []
answers s (f ∷ fs) = (f s).0 ∷ answers (f s).1 fs

abbrev pub after : State Operation → List Step → State Operation
after s [] = s
after s (f ∷ fs) = after (f s).1 fs

-- The steps of the rows: values have at most 64 bytes, and blobs 7 operations and 3 witnesses.
abbrev pub new : Step
new s = step.begin s None

abbrev pub new_on : ℕ → Step
new_on p s = step.begin s (Some p)

abbrev pub append : ℕ → ℕ → Step
append b byte s = step.append_to 64 s b (byte ∷ []) (batch_at s b)

abbrev pub seal : ℕ → ℕ → Step
seal b floor s = step.seal 64 s b None floor (batch_at s b)

abbrev pub apply : ℕ → Step
apply b s = step.apply s b (batch_at s b)

abbrev pub release : ℕ → Step
release b s = step.release s b (batch_at s b)

abbrev pub get : ℕ → Step
get l s = step.get s l

abbrev pub get_many : List ℕ → Step
get_many ls s = step.get_many s ls

abbrev pub batch_get : ℕ → ℕ → Step
batch_get b l s = step.batch_get s b l (batch_at s b)

abbrev pub batch_get_many : ℕ → List ℕ → Step
batch_get_many b ls s = step.batch_get_many s b ls (batch_at s b)

abbrev pub prove : ℕ → ℕ → ℕ → Step
prove n a count s = step.prove s n a count

abbrev pub prune : ℕ → Step
prune l s = step.prune 7 3 s l

-- ---- rows

-- An opening alone on a fresh volume.
abbrev pub FreshOpening : Type 0
FreshOpening =
    (names : DatabaseNames) → opened names (fresh plain_commit)
    (record { log = λ name. no_log; map = λ name. finmap.empty }) ≡ fresh_state

-- Two appends and a commit.
abbrev pub two_appends : List Operation
two_appends = plain_commit ∷ Append (97 ∷ []) ∷ Append (98 ∷ []) ∷ plain_commit ∷ []

abbrev pub first_batch : List Step
first_batch = new ∷ append 0 97 ∷ append 0 98 ∷ seal 0 0 ∷ apply 0 ∷ []

abbrev pub FirstBatch : Type 0
FirstBatch = answers fresh_state (first_batch ++ (get 1 ∷ get 3 ∷ get 4 ∷ step.size ∷ []))
    ≡ Batch 0 ∷ Done ∷ Done ∷ Sealed 4 (root_of_list two_appends) ∷ Applied ∷ Value (Some (97 ∷ [])) ∷ Value None
    ∷ Refused (LocationOutOfBounds 4 4) ∷ Size 4 0 0 ∷ []

-- A batch on a batch, applied at once: one size is added, and neither a proof at an append nor one of a commit without
-- witness is given.
abbrev pub two_batches : State Operation
two_batches = after fresh_state (new ∷ append 0 97 ∷ seal 0 0 ∷ new_on 0 ∷ append 1 98 ∷ seal 1 0 ∷ apply 1 ∷ [])

abbrev pub TwoBatchChain : Type 0
TwoBatchChain = (two_batches.sizes ≡ 1 ∷ 5 ∷ [])
    × (answers two_batches (prove 4 1 1 ∷ (λ s. step.prove_commit s 3) ∷ []) ≡ Refused (HistoricalFloorPruned 4)
    ∷ Refused (ItemPruned 2) ∷ [])

-- What is left of it without a commit: images with so many operations, and so many witnesses.
abbrev pub entries : ℕ → List (List ℕ)
entries zero = []
entries (suc n) = [] ∷ entries n

-- The operation log has the one number of entries, and the witness log the other.
pub record HasEntries (names : DatabaseNames) (operations witnesses : ℕ) (image : Image) : Type 0 where
  pub log : image.log names.log ≡ record { start = 0; items = entries operations }
  pub witness : image.log names.witness ≡ record { start = 0; items = entries witnesses }

abbrev pub OpensAt : ℕ → ℕ → ℕ → Type 0
OpensAt operations witnesses n =
    (names : DatabaseNames) (image : Image) → HasEntries names operations witnesses image
    → opens_at names two_batches image ≡ n

abbrev pub ThreeOperationsOneWitness : Type 0
ThreeOperationsOneWitness = OpensAt 3 1 1

abbrev pub FourOperationsTwoWitnesses : Type 0
FourOperationsTwoWitnesses = OpensAt 4 2 1

-- One append and a commit.
abbrev pub one_append : List Operation
one_append = plain_commit ∷ Append (97 ∷ []) ∷ plain_commit ∷ []

-- Siblings with equal lists: a child of the one applies after the other was applied.
abbrev pub EqualSiblings : Type 0
EqualSiblings =
    answers fresh_state (new ∷ new ∷ append 0 97 ∷ append 1 97 ∷ seal 0 0 ∷ seal 1 0 ∷ apply 0 ∷ new_on 1 ∷ append 2 98
    ∷ seal 2 0 ∷ apply 2 ∷ step.size ∷ [])
    ≡ Batch 0 ∷ Batch 1 ∷ Done ∷ Done ∷ Sealed 3 (root_of_list one_append) ∷ Sealed 3 (root_of_list one_append)
    ∷ Applied ∷ Batch 2 ∷ Done ∷ Sealed 5 (root_of_list (one_append ++ (Append (98 ∷ []) ∷ plain_commit ∷ [])))
    ∷ Applied ∷ Size 5 0 0 ∷ []

-- The sibling of an applied batch is stale.
abbrev pub siblings : State Operation
siblings = after fresh_state (new ∷ new ∷ append 0 97 ∷ append 1 98 ∷ seal 0 0 ∷ seal 1 0 ∷ apply 0 ∷ [])

abbrev pub UnequalSiblings : Type 0
UnequalSiblings =
    answers siblings (apply 1 ∷ batch_get 1 1 ∷ batch_get 0 1 ∷ batch_get_many 1 [] ∷ []) ≡ Refused StaleBatch
    ∷ Refused StaleRead ∷ Value (Some (97 ∷ [])) ∷ Refused StaleRead ∷ []

-- An applied batch is stale; a snapshot applies twice, and adds no size.
abbrev pub ReapplyAndSnapshot : Type 0
ReapplyAndSnapshot =
    (answers (after fresh_state first_batch) (apply 0 ∷ step.snapshot ∷ apply 1 ∷ apply 1 ∷ []) ≡ Refused StaleBatch
    ∷ Batch 1 ∷ Applied ∷ Applied ∷ [])
    × ((after fresh_state (first_batch ++ (step.snapshot ∷ apply 1 ∷ apply 1 ∷ []))).sizes ≡ 1 ∷ 4 ∷ [])

-- Floors beyond the size and below the floor built on; a refused seal loses its batch.
abbrev pub FloorRefusals : Type 0
FloorRefusals =
    answers fresh_state (new ∷ append 0 97 ∷ append 0 98 ∷ seal 0 4 ∷ seal 0 3 ∷ new ∷ append 1 97 ∷ append 1 98
    ∷ seal 1 3 ∷ apply 1 ∷ new ∷ seal 2 2 ∷ [])
    ≡ Batch 0 ∷ Done ∷ Done ∷ Refused (FloorBeyondSize 4 3) ∷ Refused (NoBatch 0) ∷ Batch 1 ∷ Done ∷ Done
    ∷ Sealed 4 (root_of_list (plain_commit ∷ Append (97 ∷ []) ∷ Append (98 ∷ []) ∷ Commit None 3 ∷ [])) ∷ Applied
    ∷ Batch 2 ∷ Refused (FloorRegressed 2 3) ∷ []

-- A seal on a chain whose released ancestor wasn't applied before.
abbrev pub chain : List Step
chain = new ∷ append 0 97 ∷ seal 0 0 ∷ new_on 0 ∷ append 1 98 ∷ seal 1 0 ∷ []

abbrev pub ReleasedAncestor : Type 0
ReleasedAncestor =
    answers (after fresh_state chain) (release 0 ∷ new_on 1 ∷ append 2 99 ∷ seal 2 0 ∷ []) ≡ Done ∷ Batch 2 ∷ Done
    ∷ Refused StaleBatch ∷ []

-- And on one whose released ancestor was.
abbrev pub AppliedAncestor : Type 0
AppliedAncestor = answers (after fresh_state chain) (apply 0 ∷ release 0 ∷ new_on 1 ∷ append 2 99 ∷ seal 2 0 ∷ [])
    ≡ Applied ∷ Done ∷ Batch 2 ∷ Done ∷ Sealed 7
    (root_of_list (one_append ++ (Append (98 ∷ []) ∷ plain_commit ∷ Append (99 ∷ []) ∷ plain_commit ∷ []))) ∷ []

-- Order, bounds and values of reads of several.
abbrev pub GetManyOrder : Type 0
GetManyOrder =
    answers (after fresh_state first_batch) (get_many [] ∷ get_many (1 ∷ 2 ∷ 3 ∷ []) ∷ get_many (3 ∷ 2 ∷ [])
    ∷ get_many (2 ∷ 99 ∷ []) ∷ [])
    ≡ Values [] ∷ Values (Some (97 ∷ []) ∷ Some (98 ∷ []) ∷ None ∷ []) ∷ Refused (LocationOutOfOrder 3 2)
    ∷ Refused (LocationOutOfBounds 99 4) ∷ []

-- Values and metadata above the limit, here of 4 bytes, leave the batch.
abbrev pub four_bytes : List ℕ
four_bytes = 1 ∷ 2 ∷ 3 ∷ 4 ∷ []

abbrev pub ValueLimit : Type 0
ValueLimit =
    answers fresh_state (new ∷ (λ s. step.append_to 4 s 0 (5 ∷ four_bytes) (batch_at s 0))
    ∷ (λ s. step.append_to 4 s 0 four_bytes (batch_at s 0))
    ∷ (λ s. step.seal 4 s 0 (Some (5 ∷ four_bytes)) 0 (batch_at s 0)) ∷ (λ s. step.seal 4 s 0 None 0 (batch_at s 0))
    ∷ [])
    ≡ Batch 0 ∷ Refused (ValueTooLong 5) ∷ Done ∷ Refused (ValueTooLong 5)
    ∷ Sealed 3 (root_of_list (plain_commit ∷ Append four_bytes ∷ plain_commit ∷ [])) ∷ []

-- A prune above the floor changes nothing.
abbrev pub floor_of_four : State Operation
floor_of_four = after fresh_state (new ∷ append 0 97 ∷ append 0 98 ∷ append 0 99 ∷ seal 0 4 ∷ apply 0 ∷ [])

abbrev pub PruneAboveFloor : Type 0
PruneAboveFloor =
    (prune 5 floor_of_four ≡ (Refused (PruneBeyondMinRequired 5 4), floor_of_four))
    × ((prune 4 floor_of_four).0 ≡ Pruned 0)

-- Batches of three appends, each of which has its own commit's location as floor: n of them, from number b on, on so
-- many operations.
abbrev pub three_each : ℕ → ℕ → ℕ → List Step
three_each zero b size = []
three_each (suc n) b size =
    new ∷ append b 1 ∷ append b 2 ∷ append b 3 ∷ seal b (size + 3) ∷ apply b ∷ three_each n (b + 1) (size + 4)

abbrev pub fifteen : State Operation
fifteen = after fresh_state (three_each 15 0 1)

abbrev pub PruneFifteenBatches : Type 0
PruneFifteenBatches = answers fifteen (step.size ∷ prune 8 ∷ get 6 ∷ prove 8 7 5 ∷ prove 5 4 1 ∷ [])
    ≡ Size 61 0 60 ∷ Pruned 7 ∷ Refused (ItemPruned 6) ∷ Refused (HistoricalFloorPruned 8) ∷ Refused (ItemPruned 4) ∷ []
