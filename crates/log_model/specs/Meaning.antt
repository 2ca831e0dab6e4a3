-- What an operation means to the log.
use Rattle.std.specs.Prelude.{ℕ, List, Option}

-- Of an operation with values of a type: its bytes, the floor that it sets where it is a commit, and its value or a commit's metadata.
pub record Meaning (Op V : Type 0) : Type 0 where
  pub encoding : Op → List ℕ
  pub floor : Op → Option ℕ
  pub value : Op → Option V
