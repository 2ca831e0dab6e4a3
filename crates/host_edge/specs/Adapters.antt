-- A std reader or writer as a stream.
use Rattle.std.specs.Prelude.{ℕ, Bool}

-- a source: the reader below, and how often it has failed
pub record OverReader (R : Type 0) : Type 0 where
  pub reader : R
  pub faults : ℕ

-- a sink: the writer below, whether something that was written waits for a flush, and how often it has failed
pub record OverWriter (W : Type 0) : Type 0 where
  pub writer : W
  pub waits : Bool
  pub faults : ℕ
