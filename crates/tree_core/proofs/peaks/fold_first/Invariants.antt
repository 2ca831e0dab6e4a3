use Rattle.std.proofs.Common.{◌≡◌, ◌-◌, List, ◌∷◌, take, drop, length}
use Rattle.tree_shape.specs.Root.{fold_forward}
use Rattle.tree_shape.specs.Pins.{base}
use Rattle.tree_core.specs.Reading.{ArePeaks}
use Rattle.tree_core.proofs.peaks.fold_first.Given as goal

abbrev pub invariant-loop-j : goal.invariant-loop-j
invariant-loop-j g l = let s = g.F.Family.shape in let h = g.H.Hasher.hash in let hs = s.heights l.leaves in record {
  at : l.start ≡ base l.leaves hs (length hs - l.j);
  told : (d : _) (ds : List _) → ArePeaks s l.leaves (g.P.Peaks.told l.peaks) (d ∷ ds)
      → fold_forward h l.folded (take (l.first - l.j) (drop (l.j - 1) ds)) ≡ fold_forward h d (take (l.first - 1) ds);
}
