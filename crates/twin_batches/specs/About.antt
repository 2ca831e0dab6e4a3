-- What commands are about, and what they leave.
use Rattle.std.specs.Prelude.{◌≡◌}
use Rattle.volume_base.specs.Volume as volume
use Rattle.volume_base.specs.Volume.{SameContents, PastStays}
use Rattle.command_text.specs.declared.command.Command.{Command}
use Rattle.command_text.specs.declared.command.Command.TheVariants as command
use Rattle.twin_batches.specs.Kind.{Kind}
use Rattle.twin_batches.specs.declared.about.Topic.{Topic}
use Rattle.twin_batches.specs.declared.about.Topic.TheVariants.{Batches, Apply, Question, CommitProof, Storage, Prune}

abbrev pub about_of : Command → Topic
about_of (command.Get l) = Question
about_of (command.GetMany ls) = Question
about_of (command.BatchGet b l) = Question
about_of (command.BatchGetMany b ls) = Question
about_of command.Size = Question
about_of command.Metadata = Question
about_of (command.Proof n a count) = Question
about_of (command.CommitProof n) = CommitProof n
about_of (command.Apply b) = Apply b
about_of command.Commit = Storage
about_of command.Sync = Storage
about_of command.StartSync = Storage
about_of (command.Prune l) = Prune l
about_of _ = Batches

-- It is on batches alone, and no apply, or it asks: so it leaves the volume.
abbrev pub IsQuiet : Command → Type 0
IsQuiet (command.Apply b) = ⊥
IsQuiet command.Commit = ⊥
IsQuiet command.Sync = ⊥
IsQuiet command.StartSync = ⊥
IsQuiet (command.Prune l) = ⊥
IsQuiet _ = Unit {0}

-- It needs no item of a log.
abbrev pub NeedsNoItem : Command → Type 0
NeedsNoItem (command.Get l) = ⊥
NeedsNoItem (command.GetMany ls) = ⊥
NeedsNoItem (command.BatchGet b l) = ⊥
NeedsNoItem (command.BatchGetMany b ls) = ⊥
NeedsNoItem (command.Proof n a count) = ⊥
NeedsNoItem (command.CommitProof n) = ⊥
NeedsNoItem (command.Prune l) = ⊥
NeedsNoItem _ = Unit {0}

-- What of a database is durable on a volume after a command that was done: what it keeps of the log, and by a sync the
-- nodes too.
abbrev pub IsDurableFor : {Db S U : Type 0} → Kind Db S U → Command → Db → volume.State → Type 0
IsDurableFor k command.Commit db v = k.is_durable db v
IsDurableFor k command.Sync db v = k.is_synced db v
IsDurableFor k command.StartSync db v = k.is_synced db v
IsDurableFor k _ db v = Unit {0}

-- A volume is as before but for its counts: its clock, its contents and what a crash may leave.
pub record StaysStill (tells : Type 0) (old new : volume.State) : Type 0 where
  pub clock : new.clock ≡ old.clock
  pub contents : tells → SameContents old new
  pub images : tells → PastStays old new
