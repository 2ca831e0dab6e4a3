use Rattle.std.proofs.Common.{sym, subst}
use Rattle.tree_core.specs.Tree.{Tree}
use Rattle.merkle_compact.specs.Frontier.{HasNoPins}
use Rattle.merkle_compact.proofs.FrontierLemmas.{grown_no_pins}
use Rattle.merkle_compact.proofs.merkle.Merkle.apply_batch.Goals as goal

pub invariant_of-self : goal.invariant_of-self
invariant_of-self g c = subst (λ (t : Tree g.row.D.Denot). HasNoPins g.F.Family.shape t) (sym c.in-Err.ensures.err) c.self.invariant

pub returns-in-Err-clause-refused : goal.returns-in-Err-clause-refused
returns-in-Err-clause-refused g c h all = rw c.self.view_is at (c.in-Err.ensures.refused h all)

pub invariant_of-self-2 : goal.invariant_of-self-2
invariant_of-self-2 g c = grown_no_pins _ _ c.self.inside.mem c.apply_batch.new.self c.leaves-sound.ensures.sound c.self.invariant c.in-Ok.ensures.longer

pub returns-clause-fits : goal.returns-clause-fits
returns-clause-fits g c h all = rw c.self.view_is at (c.in-Ok.ensures.fits h all)
