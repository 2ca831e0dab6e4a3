-- Errors that come as what they are.
use Rattle.volume_base.specs.declared.error.JournalError.TheVariants as journal
use Rattle.tree_store.specs.declared.error.Error.{Error}
use Rattle.tree_store.specs.declared.error.Error.TheVariants.{Journal}

-- Want of memory and a failure of the volume are never wrapped as the journal's.
abbrev pub IsLifted : {F : Type 0} → Error F → Type 0
IsLifted (Journal journal.Volume) = ⊥
IsLifted (Journal journal.Memory) = ⊥
IsLifted error = Unit {0}
