use Rattle.tree_verification.proofs.NeededLemmas.{cover-needed}
use Rattle.tree_verification.proofs.laws.needed_cover_law.Goals as goal

pub returns : goal.returns
returns g c n loc a b le = cover-needed g.F.Family.shape g.met.F.Family.lawful n loc a b le
