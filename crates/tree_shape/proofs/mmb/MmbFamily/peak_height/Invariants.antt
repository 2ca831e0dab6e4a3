use Rattle.std.proofs.Common.{◌≡◌, ◌<◌, ◌-◌, ◌^◌}
use Rattle.std.specs.Prelude.{slice_get}
use Rattle.tree_shape.specs.Mmb.{mmb_heights}
use Rattle.tree_shape.proofs.MmrBits.{raised}
use Rattle.tree_shape.proofs.mmb.MmbFamily.peak_height.Given as goal

abbrev pub invariant-loop-height : goal.invariant-loop-height
invariant-loop-height l = record {
  told : slice_get (raised l.height (mmb_heights l.rest)) l.left ≡ slice_get (mmb_heights l.fn.n) l.fn.i;
  small : l.rest < 2 ^ (63 - l.height);
}
