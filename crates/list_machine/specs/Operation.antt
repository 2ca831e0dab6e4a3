-- The operations of the run: without keys, their values of any length.
use Rattle.std.specs.Prelude.{◌≡◌, ℕ, List, Bool, nat_eq}
use Rattle.std.specs.Bool.{Decides}
use Rattle.std.specs.Cmp.Lexicographic.{pointwise}
use Rattle.codec_base.specs.Parts.{byte_list}
use Rattle.log_model.specs.Meaning.{Meaning}
use Rattle.log_model.specs.Machine.{SameTest, same_operations}
use Rattle.tree_shape.specs.Hashing.{Hashing}
use Rattle.tree_shape.specs.declared.sha256.Sha256Digest.{Sha256Digest}
use Rattle.sha2.specs.Sha256.{sha256}
use Rattle.op_codec.specs.Keyless.{variable_spelling}
use Rattle.op_codec.specs.Meanings as op_codec
use Rattle.op_codec.specs.Same.{bytes_decide}
use Rattle.codec_base.specs.declared.parts.LengthCfg.{LengthCfg}
use Rattle.tree_shape.specs.declared.mmr.Mmr.{Mmr}
use Rattle.op_codec.specs.declared.encoding.VariableEncoding.{VariableEncoding}
use Rattle.op_codec.specs.declared.keyless.Operation as keyless

abbrev pub Operation : Type 0
Operation = keyless.Operation Mmr (VariableEncoding (List ℕ)) (List ℕ) LengthCfg

-- Their bytes, floors and values.
abbrev pub meaning : Meaning Operation (List ℕ)
meaning = op_codec.keyless_meaning (variable_spelling byte_list)

-- Whether two are one.
abbrev pub same_operation : Operation → Operation → Bool
same_operation = op_codec.same_operation (pointwise nat_eq)

-- Whether two lists of them are one, operation by operation.
abbrev pub one_list : SameTest Operation
one_list = same_operations same_operation

pub operation_decide : (a b : Operation) → Decides (same_operation a b) (a ≡ b)
operation_decide = op_codec.operation_decide (pointwise nat_eq) bytes_decide

-- SHA-256.
abbrev pub sha : Hashing Sha256Digest
sha = record { digest = λ m. record { bytes = sha256 m }; bytes = λ d. d.bytes }
