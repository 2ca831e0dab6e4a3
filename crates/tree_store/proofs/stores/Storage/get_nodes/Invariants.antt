use Rattle.std.proofs.Common.{◌≡◌, Some, length, map, take}
use Rattle.volume_base.specs.Moments.{present}
use Rattle.volume_base.proofs.ReadLemmas.{OnlyRead}
use Rattle.tree_store.proofs.stores.Storage.get_nodes.Given as goal

abbrev pub invariant-loop-i : goal.invariant-loop-i
invariant-loop-i g l = record {
  so_far : OnlyRead g.V.Volume.tells (g.V.Volume.state l.initial.vol) (g.V.Volume.state l.vol);
  counted : length l.nodes.items ≡ l.i;
  nodes : g.V.Volume.tells → g.Self.Storage.held l.self (present (g.V.Volume.state l.initial.vol)) → map Some l.nodes.items ≡ map (g.Self.Storage.told l.self (present (g.V.Volume.state l.initial.vol))) (take l.i l.positions);
}
