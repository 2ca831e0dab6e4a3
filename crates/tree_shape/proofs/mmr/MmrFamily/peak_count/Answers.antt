use Rattle.std.proofs.Common.{sym}
use Rattle.tree_shape.specs.MmrSize.{length-mmr_heights}
use Rattle.tree_shape.proofs.mmr.MmrFamily.peak_count.Goals as goal

pub returns : goal.returns
returns c = sym (length-mmr_heights c.args.n)
