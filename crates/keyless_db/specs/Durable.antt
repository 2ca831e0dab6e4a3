-- What a started sync of a database has come to.
use Rattle.std.specs.Prelude.{Result, Ok, Err}
use Rattle.journal_base.specs.declared.ticket.SyncTicket.{SyncTicket}
use Rattle.journal_base.specs.declared.ticket.SyncTicket.TheVariants.{Done, Failed}
use Rattle.chain_core.specs.declared.error.Error.{Error}
use Rattle.chain_core.specs.declared.error.Error.TheVariants.{Volume}

-- what the sync itself has come to
abbrev pub sync_of : {F : Type 0} → SyncTicket → Result (Unit {0}) (Error F)
sync_of Done = Ok tt
sync_of Failed = Err Volume

-- what a call that answers a ticket has come to: beside a failed ticket it is the volume's failure
abbrev pub outcome : {F T : Type 0} → Result (T × SyncTicket) (Error F) → Result (Unit {0}) (Error F)
outcome (Ok made) = sync_of made.1
outcome (Err error) = Err error
