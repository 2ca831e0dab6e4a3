use Rattle.std.proofs.Common.{◌≡◌, ℕ, ◌≤◌, ◌++◌, length, map, drop, Some}
use Rattle.tree_shape.specs.Shape.{made, PeaksStand, peaks_down}
use Rattle.tree_shape.specs.Kept.{PeakIn, PeakOf}
use Rattle.tree_core.proofs.growth.mark_of.Given as goal

abbrev pub invariant-loop-i : goal.invariant-loop-i
invariant-loop-i g l = let s = g.F.Family.shape in let n = l.leaves in record {
  counted : length l.digests.items ≡ l.i;
  stand : PeaksStand s (made s n) l.end (drop l.i (s.heights n));
  within : l.end ≤ n;
  near : (x k : ℕ) → PeakIn l.end (drop l.i (s.heights n)) x k → PeakOf s n x k;
  told : map Some l.digests.items ++ map (λ (c : ℕ × ℕ). g.P.Peaks.told l.peaks c.0 c.1) (peaks_down l.end (drop l.i (s.heights n))) ≡ map (λ (c : ℕ × ℕ). g.P.Peaks.told l.peaks c.0 c.1) (peaks_down n (s.heights n));
}
