use Rattle.std.proofs.Common.{◌≡◌, ◌+◌, ◌-◌, length}
use Rattle.tree_shape.specs.Pins.{IsWalk}
use Rattle.tree_proof.specs.Cover.{cover, cover_over}
use Rattle.tree_shape.proofs.PeakLemmas.{peaks_left}
use Rattle.tree_verification.proofs.counting.is_cover_count.Given as goal

-- what is left, and the cover inside the peaks that are left
abbrev pub invariant-loop-i : goal.invariant-loop-i
invariant-loop-i g l = let s = g.F.Family.shape in let met = g.W.Wanted.met l.wanted in record {
  walk : IsWalk s l.leaves l.x (l.count - l.i);
  counted : l.digests + length (cover_over met (peaks_left s l.leaves (l.count - l.i))) ≡ l.left + length (cover s met l.leaves);
}
