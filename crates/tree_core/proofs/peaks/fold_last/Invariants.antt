use Rattle.std.proofs.Common.{◌≡◌, ◌-◌, List, ◌∷◌, drop, length}
use Rattle.tree_shape.specs.Root.{fold_backward}
use Rattle.tree_shape.specs.Pins.{base}
use Rattle.tree_core.specs.Reading.{ArePeaks}
use Rattle.tree_core.proofs.peaks.fold_last.Given as goal

abbrev pub invariant-loop-i : goal.invariant-loop-i
invariant-loop-i g l = let s = g.F.Family.shape in let h = g.H.Hasher.hash in let hs = s.heights l.leaves in record {
  at : l.end ≡ base l.leaves hs l.i;
  told : (ds es : List _) (d : _) → ArePeaks s l.leaves (g.P.Peaks.told l.peaks) ds → drop (length hs - l.i) ds ≡ d ∷ es → l.folded ≡ fold_backward h d es;
}
