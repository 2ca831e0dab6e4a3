use Rattle.std.proofs.Common.{ℕ, ◌<◌, map}
use Rattle.tree_core.specs.Links.{HasMark}
use Rattle.tree_core.proofs.segment.place_of.Given as goal

abbrev pub invariant-loop-i : goal.invariant-loop-i
invariant-loop-i g l = (i : ℕ) → i < l.i → HasMark (map (λ g. g.value) l.segments) i l.mark.leaves l.mark.peaks.items → ⊥
