use Rattle.std.proofs.Common.{arith, ◌∷◌}
use Rattle.chain_core.proofs.Among.{Contains-rest}
use Rattle.chain_core.proofs.bounds.is_in_chain.Goals as goal

pub returns-else-eq : goal.returns-else-eq
returns-else-eq g c =
    Contains-rest c.args.current.now c.args.tip.now (c.args.db.now ∷ c.args.ancestors.now) c.stands_at.result (λ e. grind (arith, c.if-eq.ensures.same.1 e)) c.stands_at.ensures
