-- The list machine's step: what each command answers, and the state that it leaves. Lists are compared by their
-- operations.
use Rattle.std.specs.Prelude.{ℕ, ◌+◌, ◌-◌, nat_lt, nat_le, List, length, map, drop, Option, Some, None, Result, Ok, Err, if◌then◌else◌}
use Rattle.std.specs.NonZero.{non_zero_u64_get}
use Rattle.tree_shape.specs.declared.sha256.Sha256Digest.{Sha256Digest}
use Rattle.tree_shape.specs.Mmr.{mmr}
use Rattle.tree_shape.specs.declared.mmr.Mmr.{Mmr}
use Rattle.log_model.specs.Operations.{floor_of, last_value, root_of}
use Rattle.log_model.specs.StateBatches.{Batch, UnsealedBatch, SealedBatch, Unsealed, Sealed, Gone, size_of, appended, is_held, with_hold, without_hold}
use Rattle.log_model.specs.Machine.{State, max_leaves, batch_at, with_batch, begun, snapshot_taken, applied, committed, synced, pruned}
use Rattle.log_model.specs.Proofs.{proof_answer, proof_end, proof_refusal, commit_proof_refusal}
use Rattle.log_model.specs.Reach.{may_apply, sealed_here}
use Rattle.log_model.specs.Reads.{read_answer, many_answer, sealed_reading, unsealed_reading, batch_answer, batch_many_answer}
use Rattle.log_model.specs.Refusals as sealing
use Rattle.op_codec.specs.declared.keyless.Operation.TheVariants.{Append, Commit}
use Rattle.command_text.specs.declared.command.Command.{Command}
use Rattle.command_text.specs.declared.command.Command.TheVariants as command
use Rattle.command_text.specs.declared.command.Answer.{Answer}
use Rattle.command_text.specs.declared.command.Answer.TheVariants as answer
use Rattle.log_model.specs.declared.refusal.Refusal.{Refusal}
use Rattle.log_model.specs.declared.refusal.Refusal.TheVariants.{NoBatch, ValueTooLong, StaleBatch, LocationOverflow, ItemPruned}
use Rattle.command_text.specs.declared.command.ProofAnswer.{ProofAnswer}
use Rattle.command_text.specs.declared.command.Reply.{Reply}
use Rattle.list_machine.specs.Config.{Config}
use Rattle.list_machine.specs.Operation.{Operation, meaning, sha, one_list}

-- The root of the run's tree: an MMR over SHA-256.
abbrev pub root_of_list : List Operation → Sha256Digest
root_of_list ops = root_of mmr sha meaning ops

-- The commit that a log begins with.
abbrev pub plain_commit : Operation
plain_commit = Commit None 0

-- An answer, and the state after it.
abbrev pub Outcome : Type 0
Outcome = Answer × State Operation

-- A refusal that changes nothing.
abbrev pub refused : State Operation → Refusal → Outcome
refused s r = (answer.Refused r, s)

-- The refusal that an answer is, where it is one.
abbrev pub refusal_in : Answer → Option Refusal
refusal_in (answer.Refused r) = Some r
refusal_in _ = None

-- A refusal that loses batch b.
abbrev pub lost : State Operation → ℕ → Refusal → Outcome
lost s b r = (answer.Refused r, with_batch s b Gone)

-- A new batch on batch p, which is held.
abbrev pub begin_on : State Operation → ℕ → Batch Operation → Outcome
begin_on s p (Sealed c) =
    if is_held c then (answer.Batch (length s.batches), begun s (Some p) c.list)
    else refused s (NoBatch p)
begin_on s p (Unsealed u) = refused s (NoBatch p)
begin_on s p Gone = refused s (NoBatch p)

-- A new batch on the present list, or on a sealed batch.
abbrev pub begin : State Operation → Option ℕ → Outcome
begin s None = (answer.Batch (length s.batches), begun s None s.ops)
begin s (Some p) = begin_on s p (batch_at s p)

-- A value, of at most this length, joins the appends of batch b.
abbrev pub append_to : ℕ → State Operation → ℕ → List ℕ → Batch Operation → Outcome
append_to limit s b v (Unsealed u) =
    if nat_lt limit (length v) then refused s (ValueTooLong (length v))
    else (if nat_le max_leaves (size_of u) then refused s (LocationOverflow (size_of u + 1))
    else (answer.Done, with_batch s b (Unsealed (appended u (Append v)))))
append_to limit s b v (Sealed c) = refused s (NoBatch b)
append_to limit s b v Gone = refused s (NoBatch b)

-- Why a seal of this floor loses an unsealed batch, if it does.
abbrev pub seal_refusal : State Operation → UnsealedBatch Operation → ℕ → Option Refusal
seal_refusal s u floor = sealing.seal_refusal one_list meaning s u floor

-- The length of metadata, 0 where there is none.
abbrev pub metadata_length : Option (List ℕ) → ℕ
metadata_length None = 0
metadata_length (Some metadata) = length metadata

-- The answer of a batch that was sealed, and the state with it.
abbrev pub done_sealing : State Operation → ℕ → SealedBatch Operation → Outcome
done_sealing s b c = (answer.Sealed (length c.list) (root_of_list c.list), with_batch s b (Sealed c))

-- The batch is ended by a commit with this metadata and this floor, or lost.
abbrev pub sealed_or_lost : State Operation → ℕ → UnsealedBatch Operation → Option (List ℕ) → ℕ → Option Refusal
    → Outcome
sealed_or_lost s b u metadata floor (Some refusal) = lost s b refusal
sealed_or_lost s b u metadata floor None = done_sealing s b (sealed_here s u (Commit metadata floor) floor)

-- A commit ends batch b, where nothing refuses it. Metadata that is too long leaves the batch; each other refusal loses
-- it.
abbrev pub seal : ℕ → State Operation → ℕ → Option (List ℕ) → ℕ → Batch Operation → Outcome
seal limit s b metadata floor (Unsealed u) =
    if nat_lt limit (metadata_length metadata) then refused s (ValueTooLong (metadata_length metadata))
    else sealed_or_lost s b u metadata floor (seal_refusal s u floor)
seal limit s b metadata floor (Sealed c) = refused s (NoBatch b)
seal limit s b metadata floor Gone = refused s (NoBatch b)

-- The list becomes that of batch b, which is held, where it may be applied.
abbrev pub apply : State Operation → ℕ → Batch Operation → Outcome
apply s b (Sealed c) =
    if is_held c then
    (if may_apply one_list s c then (answer.Applied, applied s c)
    else refused s StaleBatch)
    else refused s (NoBatch b)
apply s b (Unsealed u) = refused s (NoBatch b)
apply s b Gone = refused s (NoBatch b)

-- Batch b, which is held, is held once more.
abbrev pub hold : State Operation → ℕ → Batch Operation → Outcome
hold s b (Sealed c) =
    if is_held c then (answer.Done, with_batch s b (Sealed (with_hold c)))
    else refused s (NoBatch b)
hold s b (Unsealed u) = refused s (NoBatch b)
hold s b Gone = refused s (NoBatch b)

-- Batch b, which is held, is held once less; one that is unsealed is given up.
abbrev pub release : State Operation → ℕ → Batch Operation → Outcome
release s b (Sealed c) =
    if is_held c then (answer.Done, with_batch s b (Sealed (without_hold c)))
    else refused s (NoBatch b)
release s b (Unsealed u) = (answer.Done, with_batch s b Gone)
release s b Gone = refused s (NoBatch b)

-- ---- reads

-- An answer that changes nothing, or why there is none.
abbrev pub answered : {A : Type 0} → State Operation → (A → Answer) → Result A Refusal → Outcome
answered s answer (Ok x) = (answer x, s)
answered s answer (Err r) = refused s r

-- An answer that changes nothing, where nothing refuses it.
abbrev pub unless : State Operation → Option Refusal → Answer → Outcome
unless s None a = (a, s)
unless s (Some r) a = refused s r

-- The value at a location of the list, which is read from its start on, and the values at several.
abbrev pub get : State Operation → ℕ → Outcome
get s l = answered s answer.Value (read_answer meaning s.ops s.start ItemPruned l)

abbrev pub get_many : State Operation → List ℕ → Outcome
get_many s ls = answered s answer.Values (many_answer meaning s.ops s.start ItemPruned ls)

-- The same in the list of batch b, which is unsealed or held.
abbrev pub batch_get : State Operation → ℕ → ℕ → Batch Operation → Outcome
batch_get s b l (Unsealed u) = answered s answer.Value (batch_answer meaning (unsealed_reading one_list meaning s u) l)
batch_get s b l (Sealed c) =
    if is_held c then answered s answer.Value (batch_answer meaning (sealed_reading one_list s c) l)
    else refused s (NoBatch b)
batch_get s b l Gone = refused s (NoBatch b)

abbrev pub batch_get_many : State Operation → ℕ → List ℕ → Batch Operation → Outcome
batch_get_many s b ls (Unsealed u) =
    answered s answer.Values (batch_many_answer meaning (unsealed_reading one_list meaning s u) ls)
batch_get_many s b ls (Sealed c) =
    if is_held c then answered s answer.Values (batch_many_answer meaning (sealed_reading one_list s c) ls)
    else refused s (NoBatch b)
batch_get_many s b ls Gone = refused s (NoBatch b)

-- The size, the first location that is kept and the floor; and the last commit's metadata.
abbrev pub size : State Operation → Outcome
size s = (answer.Size (length s.ops) s.start (floor_of meaning s.ops), s)

abbrev pub metadata : State Operation → Outcome
metadata s = (answer.Metadata (last_value meaning s.ops), s)

-- ---- proofs

-- The proof of the operations from a to e in the first n, with their encodings.
abbrev pub proof_here : State Operation → ℕ → ℕ → ℕ → ProofAnswer
proof_here s n a e = record {
  proof = (proof_answer mmr sha meaning {F = Mmr} s.ops n a e).0;
  start = a;
  operations = map meaning.encoding (proof_answer mmr sha meaning {F = Mmr} s.ops n a e).1;
}

-- The proof of at most so many operations from a on in the first n.
abbrev pub prove : State Operation → ℕ → ℕ → ℕ → Outcome
prove s n a count =
    unless s (proof_refusal meaning s.ops s.start n a) (answer.Proof (proof_here s n a (proof_end n a count)))

-- The proof of the commit that ends the first n, where its witness is kept.
abbrev pub prove_commit : State Operation → ℕ → Outcome
prove_commit s n =
    unless s (commit_proof_refusal s.ops (drop s.wstart s.sizes) n) (answer.Proof (proof_here s n (n - 1) n))

-- ---- durability

abbrev pub commit : State Operation → Outcome
commit s = (answer.Committed, committed s)

abbrev pub sync : State Operation → Outcome
sync s = (answer.Synced, synced s)

abbrev pub start_sync : State Operation → Outcome
start_sync s = (answer.SyncStarted, synced s)

-- What lies below a location is given up, by blobs of so many operations and witnesses, where nothing refuses it.
abbrev pub prune_unless : ℕ → ℕ → State Operation → ℕ → Option Refusal → Outcome
prune_unless log_blob witness_blob s l None =
    (answer.Pruned (pruned log_blob witness_blob s l).start, pruned log_blob witness_blob s l)
prune_unless log_blob witness_blob s l (Some r) = refused s r

abbrev pub prune : ℕ → ℕ → State Operation → ℕ → Outcome
prune log_blob witness_blob s l = prune_unless log_blob witness_blob s l (sealing.prune_refusal meaning s l)

-- ---- commands

-- A sealed batch of the present list.
abbrev pub snapshot : State Operation → Outcome
snapshot s = (answer.Batch (length s.batches), snapshot_taken s (floor_of meaning s.ops))

-- What a command answers, and the state that it leaves, under a configuration.
abbrev pub step : Config → State Operation → Command → Outcome
step c s (command.New parent) = begin s parent
step c s (command.Append b v) = append_to c.value_limit s b v (batch_at s b)
step c s (command.Seal b metadata floor) = seal c.value_limit s b metadata floor (batch_at s b)
step c s (command.Apply b) = apply s b (batch_at s b)
step c s (command.Hold b) = hold s b (batch_at s b)
step c s (command.Release b) = release s b (batch_at s b)
step c s command.Snapshot = snapshot s
step c s (command.Get l) = get s l
step c s (command.GetMany ls) = get_many s ls
step c s (command.BatchGet b l) = batch_get s b l (batch_at s b)
step c s (command.BatchGetMany b ls) = batch_get_many s b ls (batch_at s b)
step c s command.Size = size s
step c s command.Metadata = metadata s
step c s (command.Proof n a count) = prove s n a (non_zero_u64_get count)
step c s (command.CommitProof n) = prove_commit s n
step c s command.Commit = commit s
step c s command.Sync = sync s
step c s command.StartSync = start_sync s
step c s (command.Prune l) = prune c.log_blob c.witness_blob s l

-- The reply: the answer, with the size and the root of the list after the step.
abbrev pub reply : Outcome → Reply
reply o = record {
  answer = o.0;
  size = length o.1.ops;
  full_root = root_of_list o.1.ops;
  compact_root = root_of_list o.1.ops;
}
