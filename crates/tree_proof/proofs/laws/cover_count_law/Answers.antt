use Rattle.tree_proof.proofs.CoverCount.{checks_count}
use Rattle.tree_proof.proofs.laws.cover_count_law.Goals as goal

pub returns : goal.returns
returns g c bagging proof a items r shown = checks_count g.F.Family.shape g.H.Hasher.hash bagging proof a items r shown
