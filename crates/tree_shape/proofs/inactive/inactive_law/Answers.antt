use Rattle.tree_shape.specs.Shape.{made}
use Rattle.tree_shape.proofs.InactiveLemmas.{inactive_lead, inactive-within, inactive-all}
use Rattle.tree_shape.proofs.inactive.inactive_law.Goals as goal

pub returns-clause-leading : goal.returns-clause-leading
returns-clause-leading g c n f = let s = g.F.Family.shape in (inactive_lead s (made s n) f n (s.heights n) (g.met.F.Family.lawful.peaks n)).leading

pub returns-clause-others : goal.returns-clause-others
returns-clause-others g c n f = let s = g.F.Family.shape in (inactive_lead s (made s n) f n (s.heights n) (g.met.F.Family.lawful.peaks n)).others

pub returns-clause-within : goal.returns-clause-within
returns-clause-within g c n f = inactive-within g.F.Family.shape n f

pub returns-clause-all : goal.returns-clause-all
returns-clause-all g c n = inactive-all g.F.Family.shape g.met.F.Family.lawful n
