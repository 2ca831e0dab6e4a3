-- What a call says that clears a log.
use Rattle.std.specs.Prelude.{◌≡◌, ◌↔◌, ℕ, ◌-◌, ◌^◌, Result, IfErr, OnOk, IsErrOf}
use Rattle.journal_base.specs.Answers.{IsOfSize, RefusesUnwritten}
use Rattle.journal_base.specs.View.{View, log_of, left_of}
use Rattle.volume_base.specs.Log.{cleared_at, BecomesOneOf}
use Rattle.volume_base.specs.Volume.{State, OnlyLeft, WritesLog}
use Rattle.volume_base.specs.declared.error.JournalError.{JournalError}
use Rattle.volume_base.specs.declared.error.JournalError.TheVariants.{SizeOverflow, Volume}

-- It refuses 2^64 - 1. After Ok the log is empty at the size, and a crash leaves that. At each moment an image of
-- the log
-- is one of before, or the empty log; every other log and map stays, and so does what a crash leaves of it.
pub record Clears {Codec T : Type 0} (tells : Type 0) (view : View Codec) (size : ℕ)
    (old new : State) (result : Result T JournalError) : Type 0 where
  pub overflow : IsErrOf result SizeOverflow ↔ (size ≡ 2 ^ 64 - 1)
  pub cleared : OnOk result (tells → log_of view new ≡ cleared_at size)
  pub durable : OnOk result (tells → OnlyLeft (left_of view new) (cleared_at size))
  pub refused : RefusesUnwritten old new result
  pub errors : IfErr result IsOfSize
  pub call : WritesLog tells Volume view.name (BecomesOneOf (cleared_at size)) old new result
