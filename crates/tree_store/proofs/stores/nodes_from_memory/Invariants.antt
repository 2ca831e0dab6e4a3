use Rattle.std.proofs.Common.{◌≡◌, Some, length, map, take}
use Rattle.tree_store.proofs.stores.nodes_from_memory.Given as goal

abbrev pub invariant-loop-i : goal.invariant-loop-i
invariant-loop-i g l = record {
  counted : length l.nodes.items ≡ l.i;
  nodes : map Some l.nodes.items ≡ map (g.R.Readable.told l.memory) (take l.i l.positions);
}
