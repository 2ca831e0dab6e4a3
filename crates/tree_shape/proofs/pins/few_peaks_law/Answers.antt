use Rattle.tree_shape.proofs.pins.few_peaks_law.Goals as goal

pub returns : goal.returns
returns g c n few = g.met.F.Family.few_peaks n few
