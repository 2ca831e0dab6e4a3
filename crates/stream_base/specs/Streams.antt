-- Streams in memory, and what a reader took of a source.
use Rattle.std.specs.Prelude.{ℕ, List, Option}
use Rattle.std.specs.Io.KnownBytes.{Consumes}
use Rattle.stream_base.specs.Failing.{Failing}

-- a source in memory: the bytes that are left, and the failures that are set
pub record Unread : Type 0 where
  pub left : List ℕ
  pub failing : Failing

-- a sink in memory: the bytes that were written, how many more it takes, and the failures that are set
pub record Filled : Type 0 where
  pub written : List ℕ
  pub room : ℕ
  pub failing : Failing

-- some of the bytes were read, maybe none
pub record ReadsFront (old new : Option (List ℕ)) : Type 0 where
  pub bytes : List ℕ
  pub read : Consumes old new bytes
