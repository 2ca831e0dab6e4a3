use Rattle.log_model.proofs.HashedLemmas.{encodings_one}
use Rattle.log_model.proofs.laws.encodings_law.Goals as goal

pub returns : goal.returns
returns g c = encodings_one g.F.Family.shape g.H.Hasher.hash g.O.Logged.meaning c.one_root_law.ensures
