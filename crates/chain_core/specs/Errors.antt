-- How an error is passed on to the layer above.
use Rattle.volume_base.specs.declared.error.JournalError.{JournalError}
use Rattle.volume_base.specs.declared.error.JournalError.TheVariants as journal_error
use Rattle.tree_store.specs.declared.error.Error as tree
use Rattle.tree_store.specs.declared.error.Error.TheVariants as tree_error
use Rattle.chain_core.specs.declared.error.Error.{Error}
use Rattle.chain_core.specs.declared.error.Error.TheVariants.{Journal, Merkle, Volume, Memory}

-- A journal's error as a database's: a failure of the volume and want of memory stay what they are, every other is wrapped.
abbrev pub from_journal : {F : Type 0} → JournalError → Error F
from_journal journal_error.Volume = Volume
from_journal journal_error.Memory = Memory
from_journal error = Journal error

-- A tree's error as a database's, likewise.
abbrev pub from_tree : {F : Type 0} → tree.Error F → Error F
from_tree tree_error.Volume = Volume
from_tree tree_error.Memory = Memory
from_tree error = Merkle error
