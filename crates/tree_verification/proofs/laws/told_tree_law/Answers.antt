use Rattle.tree_verification.proofs.TreeLemmas.{told-tree, told-rebuilt}
use Rattle.tree_verification.proofs.laws.told_tree_law.Goals as goal

pub returns-clause-some : goal.returns-clause-some
returns-clause-some g c proof a items count = told-tree g.F.Family.shape g.H.Hasher.hash proof a items (g.met.F.Family.lawful.peaks proof.leaves) count

pub returns-clause-rebuilt : goal.returns-clause-rebuilt
returns-clause-rebuilt g c proof a items tree told = told-rebuilt g.F.Family.shape g.H.Hasher.hash proof a items tree told
