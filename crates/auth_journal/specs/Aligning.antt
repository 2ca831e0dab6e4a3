-- A tree that is brought to the end of its log.
use Rattle.std.specs.Prelude.{◌≡◌, ◌⊎◌, ℕ}
use Rattle.journal_base.specs.Items.{Items}
use Rattle.journal_base.specs.View.{SameButBounds}
use Rattle.merkle_full.specs.Full.{Full}
use Rattle.volume_base.specs.declared.error.JournalError.{JournalError}
use Rattle.auth_journal.specs.Errors.{IsOutside}
use Rattle.auth_journal.specs.Reading.{IsFirstUnread}
use Rattle.auth_journal.specs.declared.error.Error.{Error}
use Rattle.auth_journal.specs.declared.error.Error.TheVariants.{Journal}

-- Why a tree of so many leaves isn't brought to an end of a log: by the outside; or the first item from its leaves on that can't be read
-- says why.
abbrev pub NotAligned : {F Item : Type 0} → Type 0 → Items Item → ℕ → ℕ → Error F → Type 0
NotAligned tells items leaves end e = IsOutside e ⊎ ((d : JournalError) × (e ≡ Journal d) × IsFirstUnread tells items leaves end d)

-- It is the other tree with so many leaves: it has its boundary and its map, and its log but for the bounds.
pub record IsAligned {D : Type 0} (t : Full D) (n : ℕ) (u : Full D) : Type 0 where
  pub leaves : u.tree.leaves ≡ n
  pub boundary : u.boundary ≡ t.boundary
  pub log : SameButBounds t.log u.log
  pub metadata : u.metadata ≡ t.metadata
