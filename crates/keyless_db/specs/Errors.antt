-- What the errors of the layers below become.
use Rattle.std.specs.Prelude.{◌≡◌, ◌⊎◌}
use Rattle.volume_base.specs.declared.error.JournalError.TheVariants.{SizeOverflow}
use Rattle.auth_journal.specs.declared.error.Error as joined_error
use Rattle.auth_journal.specs.declared.error.Error.TheVariants as joined
use Rattle.chain_core.specs.Answers.{IsOutside}
use Rattle.chain_core.specs.declared.error.Error.{Error}
use Rattle.chain_core.specs.declared.error.Error.TheVariants.{Journal, Merkle, StaleBatch, Volume, Memory}

-- Want of memory and a failure of the volume stay what they are, and so does what the log or the tree refuses.
abbrev pub from_joined : {F : Type 0} → joined_error.Error F → Error F
from_joined (joined.Merkle error) = Merkle error
from_joined (joined.Journal error) = Journal error
from_joined joined.Volume = Volume
from_joined joined.Memory = Memory

-- It is an error of the journal of which this holds.
abbrev pub IsFromJoined : {F : Type 0} → (joined_error.Error F → Type 0) → Error F → Type 0
IsFromJoined {F} P e = (d : joined_error.Error F) × (e ≡ from_joined d) × P d

-- Of an apply: what the tree refuses is a batch that doesn't stand here.
abbrev pub from_apply : {F : Type 0} → joined_error.Error F → Error F
from_apply (joined.Merkle error) = StaleBatch
from_apply error = from_joined error

-- It is refused as a batch that doesn't stand here, by the outside, or since the log can't have so many.
abbrev pub IsOfApply : {F : Type 0} → Error F → Type 0
IsOfApply e = (e ≡ StaleBatch) ⊎ (IsOutside e ⊎ (e ≡ Journal SizeOverflow))
