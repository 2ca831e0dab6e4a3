use Rattle.std.proofs.Common.{arith}
use Rattle.tree_core.proofs.LinkLemmas.{joined_length}
use Rattle.tree_core.proofs.sealed.MerkleizedBatch.first_position.Goals as goal

pub size-requires : goal.size-requires
size-requires g c = let r = joined_length g.F.Family.shape c.self.inside.first _ c.self.inside.leaves c.self.invariant.linked in let few = c.self.invariant.few in omega (arith, r.0, few)
