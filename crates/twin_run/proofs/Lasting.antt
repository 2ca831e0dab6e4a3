-- What a step makes durable outlasts a crash, also by the names of a configuration.
use Rattle.std.proofs.Common.{◌≡◌, ℕ, ◌+◌, ◌<◌, ◌≤◌, ◌++◌, [], ◌∷◌, List, length, take, get_or, ◌∙◌, ap, subst, sym, arith}
use Rattle.std.proofs.lemmas.List.{take_all, take_more}
use Rattle.volume_base.specs.Names.{Names}
use Rattle.volume_base.specs.Volume as volume
use Rattle.volume_base.specs.Volume.{OnlyLeft}
use Rattle.command_text.specs.declared.command.Command.{Command}
use Rattle.command_text.specs.declared.command.Command.TheVariants as command
use Rattle.list_machine.specs.Config.{Config}
use Rattle.twin_batches.specs.About.{StaysStill, IsQuiet}
use Rattle.twin_databases.specs.CompactKind.{compact_kind}
use Rattle.twin_databases.specs.FullKind.{full_kind}
use Rattle.twin_run.specs.Lasting.{IsLasting, IsAllLasting, LastsAfter, LastsFrom, LastsBehind}
use Rattle.twin_run.specs.Twins.{AreOf, IsDurableAfter}
use Rattle.twin_run.specs.declared.sides.Twins.{Twins}

module _ (config : Config) (t : Twins) (v : volume.State) (of : AreOf config t) where
  -- a log of which a crash leaves all, under its name in the configuration
  under : (name named : List ℕ) → name ≡ named → OnlyLeft (v.log_left v.clock name) (v.log name)
      → OnlyLeft (v.log_left v.clock named) (v.log named)
  under name named is only = subst (λ (n : List ℕ). OnlyLeft (v.log_left v.clock n) (v.log n)) is only

  pub lasting : full_kind.is_durable t.full.db v → compact_kind.is_durable t.compact.db v → IsLasting config v
  lasting full compact = record {
    log = under _ config.log (ap (λ (n : Names). get_or n.logs 0 []) of.under.full_names_are) full;
    witness = under _ config.witness (ap (λ (n : Names). get_or n.logs 0 []) of.under.compact_names_are) compact;
  }

  pub all_lasting : full_kind.is_synced t.full.db v × compact_kind.is_durable t.compact.db v → IsAllLasting config v
  all_lasting both = record {
    logs = lasting both.0.0 both.1;
    nodes = under _ config.nodes (ap (λ (n : Names). get_or n.logs 1 []) of.under.full_names_are) both.0.1;
  }

-- what is left stays where the volume stays
module _ (config : Config) (tells : Type 0) (old new : volume.State) (still : StaysStill tells old new) (told : tells) where
  only_still : (name : List ℕ) → OnlyLeft (old.log_left old.clock name) (old.log name)
      → OnlyLeft (new.log_left new.clock name) (new.log name)
  only_still name only image left =
      let now = subst (λ (t : ℕ). new.log_left t name image) still.clock left in
      only image (((still.images told).logs old.clock name image (omega arith)).0 now) ∙ sym ((still.contents told).logs name)

  lasting_still : IsLasting config old → IsLasting config new
  lasting_still is = record {
    log = only_still config.log is.log;
    witness = only_still config.witness is.witness;
  }

  all_lasting_still : IsAllLasting config old → IsAllLasting config new
  all_lasting_still is = record {
    logs = lasting_still is.logs;
    nodes = only_still config.nodes is.nodes;
  }

  -- what lasts behind a command lasts on
  module _ {before before' : Type 0} (on : before → before') where
    after_on : (c : Command) → LastsAfter config old before c → LastsAfter config new before' c
    after_on command.Commit is = lasting_still is
    after_on command.Sync is = all_lasting_still is
    after_on command.StartSync is = all_lasting_still is
    after_on (command.Apply b) is = tt
    after_on (command.Prune l) is = tt
    after_on (command.New parent) is = on is
    after_on (command.Append b value) is = on is
    after_on (command.Seal b metadata floor) is = on is
    after_on (command.Hold b) is = on is
    after_on (command.Release b) is = on is
    after_on command.Snapshot is = on is
    after_on (command.Get l) is = on is
    after_on (command.GetMany ls) is = on is
    after_on (command.BatchGet b l) is = on is
    after_on (command.BatchGetMany b ls) is = on is
    after_on command.Size is = on is
    after_on command.Metadata is = on is
    after_on (command.Proof n a count) is = on is
    after_on (command.CommitProof n) is = on is

  from_on : (cs : List Command) (before before' : Type 0) → (before → before') → LastsFrom config old before cs
      → LastsFrom config new before' cs
  from_on [] before before' on is = on is
  from_on (c ∷ rest) before before' on is =
      from_on rest (LastsAfter config old before c) (LastsAfter config new before' c) (after_on on c) is

  pub behind_on : (cs : List Command) → LastsBehind config old cs → LastsBehind config new cs
  behind_on cs is = from_on cs (IsAllLasting config old) (IsAllLasting config new) all_lasting_still is

-- behind one command more, where it leaves the volume or makes durable
module _ (config : Config) (tells : Type 0) (told : tells) (t : Twins) (old new : volume.State) (of : AreOf config t) where
  pub lasting_after : (c : Command) (cs : List Command) → LastsBehind config old cs
      → (IsQuiet c → StaysStill tells old new) → IsDurableAfter c t.full.db t.compact.db new
      → LastsAfter config new (LastsBehind config new cs) c
  lasting_after command.Commit cs before still both = lasting config t new of both.0 both.1
  lasting_after command.Sync cs before still both = all_lasting config t new of both
  lasting_after command.StartSync cs before still both = all_lasting config t new of both
  lasting_after (command.Apply b) cs before still both = tt
  lasting_after (command.Prune l) cs before still both = tt
  lasting_after (command.New parent) cs before still both = behind_on config tells old new (still tt) told cs before
  lasting_after (command.Append b value) cs before still both = behind_on config tells old new (still tt) told cs before
  lasting_after (command.Seal b metadata floor) cs before still both = behind_on config tells old new (still tt) told cs before
  lasting_after (command.Hold b) cs before still both = behind_on config tells old new (still tt) told cs before
  lasting_after (command.Release b) cs before still both = behind_on config tells old new (still tt) told cs before
  lasting_after command.Snapshot cs before still both = behind_on config tells old new (still tt) told cs before
  lasting_after (command.Get l) cs before still both = behind_on config tells old new (still tt) told cs before
  lasting_after (command.GetMany ls) cs before still both = behind_on config tells old new (still tt) told cs before
  lasting_after (command.BatchGet b l) cs before still both = behind_on config tells old new (still tt) told cs before
  lasting_after (command.BatchGetMany b ls) cs before still both = behind_on config tells old new (still tt) told cs before
  lasting_after command.Size cs before still both = behind_on config tells old new (still tt) told cs before
  lasting_after command.Metadata cs before still both = behind_on config tells old new (still tt) told cs before
  lasting_after (command.Proof n a count) cs before still both = behind_on config tells old new (still tt) told cs before
  lasting_after (command.CommitProof n) cs before still both = behind_on config tells old new (still tt) told cs before

-- behind a command that comes last
from_last : (config : Config) (v : volume.State) (before : Type 0) (front : List Command) (c : Command)
    → LastsAfter config v (LastsFrom config v before front) c → LastsFrom config v before (front ++ c ∷ [])
from_last config v before [] c lasts = lasts
from_last config v before (d ∷ rest) c lasts = from_last config v (LastsAfter config v before d) rest c lasts

-- behind one command more of the first ones, and behind all
pub lasts_next : (config : Config) (v : volume.State) (commands : List Command) (i : ℕ) (c : Command)
    → get_or commands i c ≡ c → i < length commands → LastsAfter config v (LastsBehind config v (take i commands)) c
    → LastsBehind config v (take (i + 1) commands)
lasts_next config v commands i c is lt lasts =
    let last : take i commands ++ c ∷ [] ≡ take (i + 1) commands =
    sym (take_more commands i c lt ∙ ap (λ (x : Command). take i commands ++ x ∷ []) is) in
    subst (LastsBehind config v) last (from_last config v (IsAllLasting config v) (take i commands) c lasts)

pub lasts_all : (config : Config) (v : volume.State) (commands : List Command) (i : ℕ) → length commands ≤ i
    → LastsBehind config v (take i commands) → LastsBehind config v commands
lasts_all config v commands i past lasts = subst (LastsBehind config v) (take_all i commands past) lasts
