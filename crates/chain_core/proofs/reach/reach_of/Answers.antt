use Rattle.chain_core.proofs.PoolLemmas.{reach_alive}
use Rattle.chain_core.proofs.reach.reach_of.Goals as goal

pub collected-requires : goal.collected-requires
collected-requires g c = rw c.deref.ensures.value (reach_alive c.args.pool.now c.in_ok-ids.ids.items c.args.link c.in_ok-ids.ensures.reach)
