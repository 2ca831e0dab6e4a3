use Rattle.std.proofs.Common.{◌≡◌, map, drop}
use Rattle.std.specs.Prelude.{slice_get}
use Rattle.tree_core.specs.Links.{joined_nodes}
use Rattle.tree_core.proofs.segment.node_in.Given as goal

abbrev pub invariant-loop-i : goal.invariant-loop-i
invariant-loop-i g l = slice_get (joined_nodes (drop l.i (map (λ g. g.value) l.segments))) l.left ≡ slice_get (joined_nodes (map (λ g. g.value) l.segments)) l.index
