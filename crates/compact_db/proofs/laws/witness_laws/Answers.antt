use Rattle.std.proofs.Common.{length, sym, ap, ◌∙◌}
use Rattle.compact_db.proofs.WitnessLemmas.{longer, made_is, witness_allowed}
use Rattle.compact_db.proofs.laws.witness_laws.Goals as goal

pub returns-clause-longer : goal.returns-clause-longer
returns-clause-longer g c ops more n some le =
    longer g.F.Family.shape g.H.Hasher.hash g.O.Logged.meaning ops more n some le

pub returns-clause-verified : goal.returns-clause-verified
returns-clause-verified g c ops floor =
    made_is g.F.Family.shape g.H.Hasher.hash g.O.Logged.meaning g.met.F.Family.lawful ops

pub returns-clause-allowed : goal.returns-clause-allowed
returns-clause-allowed g c ops size le short =
    witness_allowed g.F.Family.shape g.H.Hasher.hash g.O.Logged.meaning _
    (λ bytes. g.met.H.Digest.Digest.allowed _ (ap length (sym (g.met.H.Hasher.same_bytes _)) ∙ g.met.H.Hasher.one_size bytes))
    g.row.F.Denot g.met.F.Family.few_peaks ops size le short
