use Rattle.tree_evidence.proofs.ClashLemmas.{to_clash}
use Rattle.tree_evidence.proofs.laws.clash_law.Goals as goal

pub returns : goal.returns
returns g c ones others x y found = to_clash g.H.Hasher.hash ones others x y found
