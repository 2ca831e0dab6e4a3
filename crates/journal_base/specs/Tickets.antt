-- What a ticket of a started sync tells.
use Rattle.std.specs.Prelude.{Bool, true, false, Result, Ok, Err}
use Rattle.volume_base.specs.declared.error.VolumeError.{VolumeError}
use Rattle.volume_base.specs.declared.error.VolumeError.TheVariants as volume_error
use Rattle.volume_base.specs.declared.error.JournalError.{JournalError}
use Rattle.volume_base.specs.declared.error.JournalError.TheVariants as journal_error
use Rattle.journal_base.specs.declared.ticket.SyncTicket.{SyncTicket}
use Rattle.journal_base.specs.declared.ticket.SyncTicket.TheVariants.{Done, Failed}

abbrev pub is_failed : SyncTicket → Bool
is_failed Done = false
is_failed Failed = true

abbrev pub settled : SyncTicket → Result (Unit {0}) VolumeError
settled Done = Ok tt
settled Failed = Err volume_error.Failed

-- what the sync itself has come to
abbrev pub sync_of : SyncTicket → Result (Unit {0}) JournalError
sync_of Done = Ok tt
sync_of Failed = Err journal_error.Volume

-- what a call that answers a ticket has come to: beside a failed ticket it is the volume's failure
abbrev pub outcome : {J : Type 0} → Result (J × SyncTicket) JournalError → Result (Unit {0}) JournalError
outcome (Ok made) = sync_of made.1
outcome (Err error) = Err error
