use Rattle.log_model.proofs.StoredLemmas as stored
use Rattle.log_model.proofs.laws.stands_laws.Goals as goal

pub returns-clause-full_wider : goal.returns-clause-full_wider
returns-clause-full_wider g c = stored.full_wider g.F.Family.shape g.H.Hasher.hash g.H.Digest.Spelled.spelling g.O.Logged.meaning

pub returns-clause-full_longer : goal.returns-clause-full_longer
returns-clause-full_longer g c = stored.full_longer g.F.Family.shape g.H.Hasher.hash g.H.Digest.Spelled.spelling g.O.Logged.meaning g.met.F.Family.lawful

pub returns-clause-compact_wider : goal.returns-clause-compact_wider
returns-clause-compact_wider g c = stored.compact_wider g.F.Family.shape g.H.Hasher.hash g.H.Digest.Spelled.spelling g.O.Logged.meaning

pub returns-clause-compact_longer : goal.returns-clause-compact_longer
returns-clause-compact_longer g c = stored.compact_longer g.F.Family.shape g.H.Hasher.hash g.H.Digest.Spelled.spelling g.O.Logged.meaning
