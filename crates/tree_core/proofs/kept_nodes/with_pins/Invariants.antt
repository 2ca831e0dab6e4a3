use Rattle.std.proofs.Common.{◌≡◌, ◌++◌}
use Rattle.std.specs.Prelude.{filter}
use Rattle.tree_core.specs.KeptNodes.{placed}
use Rattle.tree_core.proofs.PinningLemmas.{is_free}
use Rattle.tree_core.proofs.kept_nodes.with_pins.Given as goal

abbrev pub invariant-loop-position : goal.invariant-loop-position
invariant-loop-position g l =
    l.all.items ++ filter (is_free (l.old ++ placed l.first l.nodes)) l.position-iterator
    ≡ filter (is_free (l.old ++ placed l.first l.nodes)) l.pins.entries
