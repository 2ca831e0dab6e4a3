use Rattle.std.proofs.Common.{◌≡◌, map, take}
use Rattle.chain_core.specs.Reached.{items_at, oldest_in}
use Rattle.chain_core.proofs.reach.collected.Given as goal

abbrev pub invariant-loop-id : goal.invariant-loop-id
invariant-loop-id g l = record {
  tips : l.tips.items ≡ map (λ c. (g.T.Chained.bounds_of c).tip) (items_at l.pool (take l.id-index l.ids));
  oldest : l.oldest ≡ oldest_in g.T.Chained.bounds_of (items_at l.pool (take l.id-index l.ids));
}
