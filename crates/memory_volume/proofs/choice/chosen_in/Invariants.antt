use Rattle.std.proofs.Common.{◌≡◌, drop}
use Rattle.memory_volume.specs.Choices.{chosen_log}
use Rattle.memory_volume.specs.Replay.{versions_in}
use Rattle.memory_volume.proofs.choice.chosen_in.Given as goal

abbrev pub invariant-loop-choice : goal.invariant-loop-choice
invariant-loop-choice l = chosen_log l.choices (versions_in l.row) l.row.name ≡ chosen_log (drop l.choice-index l.choices) (versions_in l.row) l.row.name
