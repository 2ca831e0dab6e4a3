-- What both databases of a run keep, and what they stand for.
use Rattle.std.specs.Prelude.{◌≡◌, ◌^◌, ◌<◌, length}
use Rattle.volume_base.specs.Moments.{Image}
use Rattle.volume_base.specs.Names.{Names, AreApart, joined}
use Rattle.volume_base.specs.Volume as volume
use Rattle.log_model.specs.Good.{AnyList}
use Rattle.log_model.specs.Machine.{State}
use Rattle.log_model.specs.declared.refusal.Refusal.{Refusal}
use Rattle.command_text.specs.declared.command.Answer.{Answer}
use Rattle.command_text.specs.declared.command.Answer.TheVariants as answer
use Rattle.command_text.specs.declared.command.Command.{Command}
use Rattle.command_text.specs.declared.command.Reply.{Reply}
use Rattle.list_machine.specs.Config.{Config, AreNamesApart}
use Rattle.list_machine.specs.Operation.{Operation}
use Rattle.list_machine.specs.Step.{reply}
use Rattle.list_machine.specs.GoodRuns.{IsGoodState}
use Rattle.list_machine.specs.Starts.{full_names, compact_names}
use Rattle.twin_batches.specs.Durability.{IsSettled}
use Rattle.twin_batches.specs.About.{IsDurableFor}
use Rattle.twin_batches.specs.Kind.{Kind, kept_of}
use Rattle.twin_batches.specs.Leaving.{LeavesBatches}
use Rattle.twin_batches.specs.StateOf.{IsShaped, HasRoom, IsStateOf}
use Rattle.twin_databases.specs.CompactKind.{CompactView, compact_kind}
use Rattle.twin_databases.specs.FullKind.{FullView, full_kind}
use Rattle.twin_run.specs.declared.sides.Twins.{Twins}

-- The full and the compact database keep a configuration's logs and its map, and were opened under it.
pub record AreUnder (config : Config) (full : FullView) (compact : CompactView) : Type 0 where
  pub full_names_are : full_kind.names full ≡ full_names config
  pub full_under : full_kind.is_under config full
  pub compact_names_are : compact_kind.names compact ≡ compact_names config
  pub compact_under : compact_kind.is_under config compact

-- Neither keeps a failed sync.
pub record AreSound (f : FullView) (c : CompactView) : Type 0 where
  pub full : full_kind.is_sound f
  pub compact : compact_kind.is_sound c

-- With these contents of a volume both are the database of a state.
pub record AreOpenedAs (s : State Operation) (image : Image) (f : FullView) (c : CompactView) : Type 0 where
  pub full : full_kind.is_of (kept_of s) image f
  pub compact : compact_kind.is_of (kept_of s) image c

-- What both keep over any contents: the shape of their batches, as many steps on either, and no sync that has failed.
-- They have no name in common, one size and one root.
pub record AreShaped (t : Twins) : Type 0 where
  pub full : IsShaped full_kind t.full.numbers
  pub compact : IsShaped compact_kind t.compact.numbers
  pub even : t.compact.numbers.taken ≡ t.full.numbers.taken
  pub sound : AreSound t.full.db t.compact.db
  pub apart : AreApart (full_kind.names t.full.db) (compact_kind.names t.compact.db)
  pub equal : full_kind.state t.full.db ≡ compact_kind.state t.compact.db

-- A step has begun on both.
pub record HaveRoom (t : Twins) : Type 0 where
  pub full : HasRoom t.full.numbers
  pub compact : HasRoom t.compact.numbers

-- Both are those of a configuration.
pub record AreOf (config : Config) (t : Twins) : Type 0 where
  pub under : AreUnder config t.full.db t.compact.db
  pub full_limit : t.full.limit ≡ config.value_limit
  pub compact_limit : t.compact.limit ≡ config.value_limit

-- With these contents of a volume both stand for a good state, under a configuration.
pub record IsTwinsOf (config : Config) (image : Image) (t : Twins) (s : State Operation) : Type 0 where
  pub good : IsGoodState AnyList config.value_limit s
  pub apart : AreNamesApart config
  pub few : config.value_limit < 2 ^ 64
  pub of : AreOf config t
  pub full : IsStateOf full_kind image t.full.db t.full.numbers s
  pub compact : IsStateOf compact_kind image t.compact.db t.compact.numbers s

-- A reply that tells the size and the root of the full database, and the root of the compact one.
abbrev pub reply_of : Twins → Answer → Reply
reply_of t a = record {
  answer = a;
  size = (full_kind.state t.full.db).size;
  full_root = (full_kind.state t.full.db).root;
  compact_root = (compact_kind.state t.compact.db).root;
}

-- The reply to an opening in a state.
abbrev pub opened_reply : State Operation → Reply
opened_reply s = reply (answer.Opened (length s.ops) s.start, s)

-- A database that goes on another: it keeps the same logs and maps, was opened under the same configurations, and keeps
-- no failed sync.
pub record GoesOn {Db S U : Type 0} (k : Kind Db S U) (old new : Db) : Type 0 where
  pub names : k.names new ≡ k.names old
  pub under : (config : Config) → k.is_under config old → k.is_under config new
  pub sound : k.is_sound new

-- Both go on: their logs and maps, the configurations under which they were opened, their limits and their steps are
-- as before, and neither keeps a failed sync.
pub record GoOn (old new : Twins) : Type 0 where
  pub full : GoesOn full_kind old.full.db new.full.db
  pub compact : GoesOn compact_kind old.compact.db new.compact.db
  pub full_limit : new.full.limit ≡ old.full.limit
  pub compact_limit : new.compact.limit ≡ old.compact.limit
  pub full_taken : new.full.numbers.taken ≡ old.full.numbers.taken
  pub compact_taken : new.compact.numbers.taken ≡ old.compact.numbers.taken

-- Both were made durable, or have given up old operations: whatever a volume holds, their states, floors and batches
-- are as before.
pub record AreSettled (old new : Twins) : Type 0 where
  pub full : IsSettled full_kind old.full.db new.full.db
  pub compact : IsSettled compact_kind old.compact.db new.compact.db
  pub full_numbers : new.full.numbers ≡ old.full.numbers
  pub compact_numbers : new.compact.numbers ≡ old.compact.numbers
  pub full_limit : new.full.limit ≡ old.full.limit
  pub compact_limit : new.compact.limit ≡ old.compact.limit

-- The logs and maps of both.
abbrev pub names_of : Twins → Names
names_of t = joined (full_kind.names t.full.db) (compact_kind.names t.compact.db)

-- Both databases are as before.
pub record AreKept (old new : Twins) : Type 0 where
  pub full : new.full.db ≡ old.full.db
  pub compact : new.compact.db ≡ old.compact.db

-- A command that was refused for this reason leaves each batch of both, but a seal its own where the reason loses it.
pub record LeaveBatches (c : Command) (why : Refusal) (old new : Twins) : Type 0 where
  pub full : LeavesBatches full_kind c why old.full.numbers new.full.numbers
  pub compact : LeavesBatches compact_kind c why old.compact.numbers new.compact.numbers

-- What is durable on a volume after a command that was done: the operations and the witnesses, and by a sync the nodes
-- too.
abbrev pub IsDurableAfter : Command → FullView → CompactView → volume.State → Type 0
IsDurableAfter c full compact v = IsDurableFor full_kind c full v × IsDurableFor compact_kind c compact v
