-- By what the openings of the databases fail.
use Rattle.std.specs.Prelude.{◌≡◌, ◌⊎◌, ℕ, List, Option, Some, Result}
use Rattle.chain_core.specs.declared.error.Error.{Error}
use Rattle.chain_core.specs.declared.error.Error.TheVariants as error
use Rattle.codec_base.specs.Codec.{Reading}
use Rattle.codec_base.specs.Combine.{through_at}
use Rattle.codec_base.specs.Parts.{byte_list_at, whole}
use Rattle.codec_base.specs.declared.error.CodecError.{CodecError}
use Rattle.op_codec.specs.Keyless.{of_parts, variable_at}
use Rattle.compact_db.specs.Opening.{IsOpeningFault}
use Rattle.keyless_db.specs.Opening.{IsOfOpening}
use Rattle.tree_shape.specs.Mmr.{mmr}
use Rattle.tree_shape.specs.declared.mmr.Mmr.{Mmr}
use Rattle.tree_shape.specs.declared.sha256.Sha256Digest.{Sha256Digest}
use Rattle.list_machine.specs.Config.{Config}
use Rattle.list_machine.specs.Operation.{Operation, meaning}

-- The operation with which bytes begin, whose value has at most this length.
abbrev pub read_under : ℕ → List ℕ → Reading Operation
read_under limit = through_at of_parts (variable_at (byte_list_at limit))

-- The operation of which these are the bytes; or why they are none's.
abbrev pub decoded_under : ℕ → List ℕ → Result Operation CodecError
decoded_under limit bytes = whole (read_under limit bytes)

-- An error of an opening of the full database under a cap, or none, whatever the volume holds: one of its journal's, or
-- that the last operation is no commit; or a cap of 0.
abbrev pub IsOfFullOpening : Option ℕ → Error Mmr → Type 0
IsOfFullOpening cap e = IsOfOpening e ⊎ ((cap ≡ Some 0) × (e ≡ error.InvalidInitializationBound))

-- An error of an opening of the compact database under a configuration, and a cap other than 0, whatever the volume
-- holds.
abbrev pub IsOfCompactOpening : Config → Option ℕ → Error Mmr → Type 0
IsOfCompactOpening config cap e = IsOpeningFault Sha256Digest mmr meaning (decoded_under config.value_limit) cap e
