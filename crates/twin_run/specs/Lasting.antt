-- What of a run outlasts a crash.
use Rattle.std.specs.Prelude.{List, [], ◌∷◌}
use Rattle.volume_base.specs.Volume as volume
use Rattle.volume_base.specs.Volume.{OnlyLeft}
use Rattle.command_text.specs.declared.command.Command.{Command}
use Rattle.command_text.specs.declared.command.Command.TheVariants as command
use Rattle.list_machine.specs.Config.{Config}

-- A crash now leaves the operation log and the witness log of a configuration as they are.
pub record IsLasting (config : Config) (v : volume.State) : Type 0 where
  pub log : OnlyLeft (v.log_left v.clock config.log) (v.log config.log)
  pub witness : OnlyLeft (v.log_left v.clock config.witness) (v.log config.witness)

-- And the node log.
pub record IsAllLasting (config : Config) (v : volume.State) : Type 0 where
  pub logs : IsLasting config v
  pub nodes : OnlyLeft (v.log_left v.clock config.nodes) (v.log config.nodes)

-- What outlasts a crash behind a command, where this did before it. What a commit or a sync makes durable does now;
-- behind a commit nothing is said of the node log, and behind an apply or a prune, refused or not, of none. Every other
-- command leaves the volume.
abbrev pub LastsAfter : Config → volume.State → Type 0 → Command → Type 0
LastsAfter config v before command.Commit = IsLasting config v
LastsAfter config v before command.Sync = IsAllLasting config v
LastsAfter config v before command.StartSync = IsAllLasting config v
LastsAfter config v before (command.Apply b) = Unit {0}
LastsAfter config v before (command.Prune l) = Unit {0}
LastsAfter config v before _ = before

-- So it goes from command to command.
abbrev pub LastsFrom : Config → volume.State → Type 0 → List Command → Type 0
LastsFrom config v before [] = before
LastsFrom config v before (c ∷ rest) = LastsFrom config v (LastsAfter config v before c) rest

-- Behind the opening, which makes the three logs durable, and these commands.
abbrev pub LastsBehind : Config → volume.State → List Command → Type 0
LastsBehind config v commands = LastsFrom config v (IsAllLasting config v) commands
