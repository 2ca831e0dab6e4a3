use Rattle.std.proofs.Common.{◌≡◌, drop}
use Rattle.memory_volume.specs.Versions.{grown}
use Rattle.memory_volume.specs.Replay.{versions_in}
use Rattle.memory_volume.proofs.replay.grow.Given as goal

abbrev pub invariant-loop-item : goal.invariant-loop-item
invariant-loop-item l = record {
  name : l.row.name ≡ l.initial.row.name;
  rest : grown (versions_in l.row) (drop l.item-index l.items) ≡ grown (versions_in l.initial.row) l.items;
}
