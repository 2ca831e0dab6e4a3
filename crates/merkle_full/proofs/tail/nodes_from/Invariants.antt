use Rattle.std.proofs.Common.{◌≡◌, ℕ, ◌+◌, ◌-◌, ◌≤◌, max, length, Some}
use Rattle.std.specs.Prelude.{slice_get}
use Rattle.tree_core.specs.Tree.{node_at}
use Rattle.merkle_full.proofs.tail.nodes_from.Given as goal

abbrev pub invariant-loop-position : goal.invariant-loop-position
invariant-loop-position g l = record {
  counted : length l.tail.items ≡ l.position - l.first;
  low : l.first ≤ l.position;
  high : l.position ≤ max l.first l.size;
  told : (i : ℕ) (d : _) → slice_get l.tail.items i ≡ Some d → node_at l.mem (l.first + i) ≡ Some d;
}
