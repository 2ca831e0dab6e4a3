use Rattle.std.proofs.Common.{◌≡◌, ◌++◌, map, drop}
use Rattle.tree_core.specs.Links.{ChainSegment}
use Rattle.tree_core.proofs.segment.share_all.Given as goal

abbrev pub invariant-loop-i : goal.invariant-loop-i
invariant-loop-i g l = (map {B = ChainSegment _} (λ g. g.value) l.shared.items) ++ drop l.i (map {B = ChainSegment _} (λ g. g.value) l.segments) ≡ map {B = ChainSegment _} (λ g. g.value) l.segments
