use Rattle.std.proofs.Common.{arith}
use Rattle.tree_shape.proofs.Merge.{peaks-leading}
use Rattle.tree_shape.proofs.mmb.MmbFamily.peak_count.Goals as goal

pub returns : goal.returns
returns c = peaks-leading c.args.n (omega arith)
