use Rattle.tree_core.proofs.RebuiltLemmas.{rebuilt}
use Rattle.tree_core.proofs.laws.rebuilt_roots.Goals as goal

pub returns : goal.returns
returns g c h one two more k b = rebuilt g.F.Family.shape h one two more k b g.met.F.Family.lawful g.met.F.Family.keeps
