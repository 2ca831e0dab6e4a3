use Rattle.tree_proof.proofs.Complete.{slow_proof_checks}
use Rattle.tree_proof.proofs.laws.slow_proof_law.Goals as goal

pub returns : goal.returns
returns g c bagging elements inactive a b r = slow_proof_checks g.F.Family.shape g.H.Hasher.hash elements bagging inactive a b r
