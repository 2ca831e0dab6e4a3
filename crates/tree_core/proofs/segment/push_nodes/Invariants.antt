use Rattle.std.proofs.Common.{◌≡◌, List, ◌++◌, map, drop}
use Rattle.tree_core.specs.Links.{joined_nodes}
use Rattle.tree_core.proofs.segment.push_nodes.Given as goal

-- what was there is in front, and with the nodes of the segments that are left all are there
abbrev pub invariant-loop-i : goal.invariant-loop-i
invariant-loop-i g l =
    let rest = joined_nodes (drop l.i (map (λ g. g.value) l.segments)) in
    let all = joined_nodes (drop l.fn.place (map (λ g. g.value) l.segments)) in
    record {
      front : (more : List g.row.D.Denot) × (l.nodes.items ≡ l.fn.nodes.items ++ more);
      told : l.nodes.items ++ rest ≡ l.fn.nodes.items ++ all;
    }
