use Rattle.std.proofs.Common.{◌∙◌, sym}
use Rattle.tree_shape.specs.MmrSize.{length-made_mmr}
use Rattle.tree_shape.proofs.mmr.MmrFamily.size.Goals as goal

pub returns : goal.returns
returns c = c.size.ensures ∙ sym (length-made_mmr c.args.n)
