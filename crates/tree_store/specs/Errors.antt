-- What the errors of a journal and of a volume become.
use Rattle.volume_base.specs.Errors.{as_journal_error}
use Rattle.volume_base.specs.declared.error.VolumeError.{VolumeError}
use Rattle.volume_base.specs.declared.error.JournalError.{JournalError}
use Rattle.volume_base.specs.declared.error.JournalError.TheVariants as journal
use Rattle.tree_store.specs.declared.error.Error.{Error}
use Rattle.tree_store.specs.declared.error.Error.TheVariants as tree

-- want of memory and a failure of the volume stay what they are, and every other error is wrapped
abbrev pub from_journal : {F : Type 0} → JournalError → Error F
from_journal journal.Volume = tree.Volume
from_journal journal.Memory = tree.Memory
from_journal error = tree.Journal error

-- the volume's error is that of a journal over it
abbrev pub from_volume : {F : Type 0} → VolumeError → Error F
from_volume error = from_journal (as_journal_error error)
