use Rattle.std.proofs.Common.{length, sym, ◌∙◌, ap}
use Rattle.chain_core.proofs.SlotLemmas.{length-values_below}
use Rattle.chain_core.proofs.pool.Pool.drawn.Goals as goal

pub returns : goal.returns
returns g c = sym (length-values_below _ c.self.inside.drawn) ∙ ap length c.self.view_is
