-- The text of a keyless operation.
use Rattle.std.specs.Prelude.{ℕ, List}
use Rattle.op_codec.specs.declared.keyless.Operation.{Operation}
use Rattle.op_codec.specs.declared.keyless.Operation.TheVariants.{Append, Commit}
use Rattle.op_codec.specs.Text.{append_text, commit_text}

module _ {F V A C : Type 0} (spelling : A → List ℕ) where
  abbrev pub text_of : Operation F V A C → List ℕ
  text_of (Append x) = append_text (spelling x)
  text_of (Commit m floor) = commit_text spelling m floor
