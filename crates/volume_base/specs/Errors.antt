-- How an error is passed on to the layer above.
use Rattle.volume_base.specs.declared.error.VolumeError.{VolumeError}
use Rattle.volume_base.specs.declared.error.VolumeError.TheVariants as volume_error
use Rattle.volume_base.specs.declared.error.JournalError.{JournalError}
use Rattle.volume_base.specs.declared.error.JournalError.TheVariants as journal_error

-- A volume's error as a journal's: a failure of the outside is the volume's, and positions and want of memory stay.
abbrev pub as_journal_error : VolumeError → JournalError
as_journal_error volume_error.Failed = journal_error.Volume
as_journal_error (volume_error.ItemPruned position) = journal_error.ItemPruned position
as_journal_error (volume_error.ItemOutOfRange position) = journal_error.ItemOutOfRange position
as_journal_error volume_error.Memory = journal_error.Memory
