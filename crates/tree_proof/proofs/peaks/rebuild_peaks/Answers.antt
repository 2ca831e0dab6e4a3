use Rattle.std.proofs.Common.{◌∙◌}
use Rattle.tree_proof.proofs.peaks.rebuild_peaks.Goals as goal

pub returns : goal.returns
returns g c = let are = c.deref.ensures.value ∙ c.in_ok-nodes.ensures.nodes in rw are at c.in_ok-rebuilt.ensures
