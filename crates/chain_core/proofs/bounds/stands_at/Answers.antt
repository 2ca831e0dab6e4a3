use Rattle.std.proofs.Common.{arith}
use Rattle.chain_core.proofs.Among.{Contains-rest}
use Rattle.chain_core.proofs.bounds.stands_at.Goals as goal

pub returns-else-eq : goal.returns-else-eq
returns-else-eq g c =
    Contains-rest c.args.current.now c.args.db.now c.args.ancestors.now c.is_among.result (λ e. grind (arith, c.if-eq.ensures.same.1 e)) c.is_among.ensures
