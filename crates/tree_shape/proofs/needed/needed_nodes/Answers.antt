use Rattle.tree_shape.proofs.NeededLemmas.{needed_from}
use Rattle.tree_shape.proofs.needed.needed_nodes.Goals as goal

pub returns : goal.returns
returns g c n b x h le need = needed_from g.F.Family.shape g.met.F.Family.lawful g.met.F.Family.keeps n b x h le need
