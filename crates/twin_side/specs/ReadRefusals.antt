-- Why locations of the log's list aren't read, which errors of a batch's read are refusals, and what such a read
-- answers.
use Rattle.std.specs.Prelude.{ℕ, nat_le, List, Option, Some, None, Result, Ok, Err}
use Rattle.log_model.specs.Reads.{or_else, refuse_if, first_below}
use Rattle.keyless_db.specs.Reading.{below_start, locations_refusal}
use Rattle.chain_core.specs.declared.error.Error.{Error}
use Rattle.chain_core.specs.declared.error.Error.TheVariants.{LocationOutOfBounds, LocationOutOfOrder, BelowInactivityFloor, StaleRead}
use Rattle.log_model.specs.declared.refusal.Refusal.{Refusal}
use Rattle.log_model.specs.declared.refusal.Refusal.TheVariants as refusal
use Rattle.command_text.specs.declared.command.Answer.{Answer}
use Rattle.command_text.specs.declared.command.Answer.TheVariants as answer

-- Why a location of a list of so many operations isn't read that is kept from a start on: it is at or past the end,
-- or isn't kept.
abbrev pub kept_refusal : (size start l : ℕ) → Option Refusal
kept_refusal size start l =
    or_else (refuse_if (nat_le size l) (refusal.LocationOutOfBounds l size)) (below_start start l)

-- Why several aren't: two don't rise, the last is at or past the end, or the first isn't kept.
abbrev pub kept_refusals : (size start : ℕ) → List ℕ → Option Refusal
kept_refusals size start ls = or_else (locations_refusal size ls) (first_below start refusal.ItemPruned ls)

-- The refusal that the batch's states and bounds tell, where the error is one.
abbrev pub unread_of : {F : Type 0} → Error F → Option Refusal
unread_of StaleRead = Some refusal.StaleRead
unread_of (LocationOutOfOrder location next) = Some (refusal.LocationOutOfOrder location next)
unread_of (LocationOutOfBounds location size) = Some (refusal.LocationOutOfBounds location size)
unread_of (BelowInactivityFloor location) = Some (refusal.BelowInactivityFloor location)
unread_of _ = None

-- Such a refusal is answered, and an error that is none is passed on.
abbrev pub unread_or : {F : Type 0} → Error F → Option Refusal → Result Answer (Error F)
unread_or e None = Err e
unread_or e (Some why) = Ok (answer.Refused why)

-- The answer to a read of a batch, which shows what was read.
abbrev pub batch_read : {F T : Type 0} → (T → Answer) → Result T (Error F) → Result Answer (Error F)
batch_read shown (Ok x) = Ok (shown x)
batch_read shown (Err e) = unread_or e (unread_of e)
