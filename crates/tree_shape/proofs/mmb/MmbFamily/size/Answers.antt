use Rattle.std.proofs.Common.{◌∙◌, sym}
use Rattle.tree_shape.specs.MmbPlaces.{length-made_mmb}
use Rattle.tree_shape.proofs.mmb.MmbFamily.size.Goals as goal

pub returns : goal.returns
returns c = c.size.ensures ∙ sym (length-made_mmb c.args.n)
