-- The text of an immutable operation.
use Rattle.std.specs.Prelude.{ℕ, List}
use Rattle.op_codec.specs.declared.immutable.Operation.{Operation}
use Rattle.op_codec.specs.declared.immutable.Operation.TheVariants.{Set, Commit}
use Rattle.op_codec.specs.Text.{set_text, commit_text}

module _ {F K V D A C : Type 0} (raw : K → List ℕ) (spelling : A → List ℕ) where
  abbrev pub text_of : Operation F K V D A C → List ℕ
  text_of (Set k x) = set_text (raw k) (spelling x)
  text_of (Commit m floor) = commit_text spelling m floor
