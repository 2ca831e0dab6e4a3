use Rattle.tree_store.proofs.StoredLemmas.{stands_wider, stands_longer, stands_empty}
use Rattle.tree_store.proofs.laws.stored_laws.Goals as goal

pub returns-clause-wider : goal.returns-clause-wider
returns-clause-wider g c = λ h all durable less top higher log m le more stands. stands_wider g.F.Family.shape h g.D.Spelled.spelling all durable less top higher log m le more stands

pub returns-clause-longer : goal.returns-clause-longer
returns-clause-longer g c = λ h all more durable top log m stands. stands_longer g.F.Family.shape h g.D.Spelled.spelling all more durable top log m g.met.F.Family.lawful stands

pub returns-clause-empty : goal.returns-clause-empty
returns-clause-empty g c = λ h all top. stands_empty g.F.Family.shape h g.D.Spelled.spelling all top g.met.F.Family.lawful
