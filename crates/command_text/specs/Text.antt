-- The text of replies.
use Rattle.std.specs.Prelude.{ℕ, List, [], ◌∷◌, Option, codes}
use Rattle.std.specs.List.{flat_map}
use Rattle.stream_base.specs.Writing.{text_then}
use Rattle.hex.specs.Hex.{encode_lower}
use Rattle.tree_shape.specs.declared.sha256.Sha256Digest.{Sha256Digest}
use Rattle.tree_shape.specs.Sha256Codec.{bytes_of}
use Rattle.line_text.specs.Text.{numbered, titled, value_text}
use Rattle.command_text.specs.declared.command.Answer.{Answer}
use Rattle.command_text.specs.declared.command.Answer.TheVariants.{Opened, Batch, Done, Sealed, Applied, Value, Values, Size, Metadata, Proof, Committed, Synced, SyncStarted, Pruned, Refused}
use Rattle.command_text.specs.declared.command.ProofAnswer.{ProofAnswer}
use Rattle.log_model.specs.declared.refusal.Refusal.{Refusal}
use Rattle.log_model.specs.declared.refusal.Refusal.TheVariants.{NoBatch, ValueTooLong, StaleBatch, LocationOverflow, FloorRegressed, FloorBeyondSize, StaleRead, LocationOutOfOrder, LocationOutOfBounds, BelowInactivityFloor, ItemPruned, PruneBeyondMinRequired, HistoricalFloorPruned, RangeOutOfBounds}
use Rattle.command_text.specs.declared.command.Reply.{Reply}

abbrev pub refusal_text : Refusal → List ℕ
refusal_text (NoBatch n) = numbered (codes "NoBatch ") n
refusal_text (ValueTooLong n) = numbered (codes "ValueTooLong ") n
refusal_text StaleBatch = codes "StaleBatch"
refusal_text (LocationOverflow n) = numbered (codes "LocationOverflow ") n
refusal_text (FloorRegressed floor below) = text_then (numbered (codes "FloorRegressed ") floor) (numbered (codes " ") below)
refusal_text (FloorBeyondSize floor location) = text_then (numbered (codes "FloorBeyondSize ") floor) (numbered (codes " ") location)
refusal_text StaleRead = codes "StaleRead"
refusal_text (LocationOutOfOrder l next) = text_then (numbered (codes "LocationOutOfOrder ") l) (numbered (codes " ") next)
refusal_text (LocationOutOfBounds l size) = text_then (numbered (codes "LocationOutOfBounds ") l) (numbered (codes " ") size)
refusal_text (BelowInactivityFloor l) = numbered (codes "BelowInactivityFloor ") l
refusal_text (ItemPruned l) = numbered (codes "ItemPruned ") l
refusal_text (PruneBeyondMinRequired l floor) = text_then (numbered (codes "PruneBeyondMinRequired ") l) (numbered (codes " ") floor)
refusal_text (HistoricalFloorPruned n) = numbered (codes "HistoricalFloorPruned ") n
refusal_text (RangeOutOfBounds n) = numbered (codes "RangeOutOfBounds ") n

-- a digest in hexadecimal
abbrev pub digest_text : Sha256Digest → List ℕ
digest_text digest = encode_lower (bytes_of digest)

-- no bytes are a full stop
abbrev pub bytes_text : List ℕ → List ℕ
bytes_text [] = codes "."
bytes_text (b ∷ bytes) = encode_lower (b ∷ bytes)

-- a space before each value
abbrev pub values_text : List (Option (List ℕ)) → List ℕ
values_text values = flat_map (λ v. text_then (codes " ") (value_text v)) values

-- commas between texts; a hyphen where there is none
abbrev pub listed : {A : Type 0} → (A → List ℕ) → List A → List ℕ
listed text [] = codes "-"
listed text (x ∷ xs) = text_then (text x) (flat_map (λ y. text_then (codes ",") (text y)) xs)

-- the numbers of a proof, its operations and its digests
abbrev pub proof_text : ProofAnswer → List ℕ
proof_text p =
    text_then (numbered (codes "proof leaves=") p.proof.leaves)
    (text_then (numbered (codes " inactive=") p.proof.inactive_peaks)
    (text_then (numbered (codes " start=") p.start)
    (text_then (codes " ops=")
    (text_then (listed bytes_text p.operations)
    (text_then (codes " digests=") (listed digest_text p.proof.digests))))))

abbrev pub answer_text : Answer → List ℕ
answer_text (Opened size start) = numbered (codes "opened start=") start
answer_text (Batch n) = numbered (codes "batch ") n
answer_text Done = codes "ok"
answer_text (Sealed size root) = text_then (numbered (codes "sealed ") size) (titled (codes " ") root)
answer_text Applied = codes "applied"
answer_text (Value value) = text_then (codes "value ") (value_text value)
answer_text (Values values) = text_then (codes "values") (values_text values)
answer_text (Size size start floor) = text_then (numbered (codes "size ") size) (text_then (numbered (codes " start ") start) (numbered (codes " floor ") floor))
answer_text (Metadata metadata) = text_then (codes "metadata ") (value_text metadata)
answer_text (Proof p) = proof_text p
answer_text Committed = codes "committed"
answer_text Synced = codes "synced"
answer_text SyncStarted = codes "sync-started"
answer_text (Pruned start) = numbered (codes "pruned ") start
answer_text (Refused refusal) = text_then (codes "refused ") (refusal_text refusal)

-- both roots, and the end of the line
abbrev pub roots_text : Reply → List ℕ
roots_text r = text_then (titled (codes " full=") r.full_root) (text_then (titled (codes " compact=") r.compact_root) (codes "\n"))

-- the answer, the size and both roots
abbrev pub reply_text : Reply → List ℕ
reply_text r = text_then (answer_text r.answer) (text_then (numbered (codes " size=") r.size) (roots_text r))

-- the lines of replies, one behind another
unfoldable pub text_of : List Reply → List ℕ
text_of replies = flat_map reply_text replies
