use Rattle.std.proofs.Common.{arith}
use Rattle.chain_core.proofs.SlotLemmas.{drawn-is, slots-grown, kept-grown, dead-before}
use Rattle.chain_core.proofs.pool.Pool.insert.Goals as goal

pub overflow_add-self : goal.overflow_add-self
overflow_add-self g c = omega (arith, c.requires.room, drawn-is c.self.inside.batches c.self.inside.drawn c.args.self.now c.self.view_is)

pub invariant_of-self-2 : goal.invariant_of-self-2
invariant_of-self-2 g c =
    kept-grown c.self.inside.batches c.self.inside.drawn c.args.self.now c.self.view_is c.insert.new.self _ c.in_ok-insert.ensures.updates c.self.invariant (omega arith) c.requires.after

pub returns-clause-ok : goal.returns-clause-ok
returns-clause-ok g c = slots-grown c.self.inside.batches c.self.inside.drawn c.args.self.now c.self.view_is c.insert.new.self _ c.in_ok-insert.ensures.updates

pub returns-clause-number : goal.returns-clause-number
returns-clause-number g c = drawn-is c.self.inside.batches c.self.inside.drawn c.args.self.now c.self.view_is

pub returns-clause-for_ever : goal.returns-clause-for_ever
returns-clause-for_ever g c = dead-before c.self.inside.batches c.self.inside.drawn c.args.self.now c.self.view_is c.insert.new.self _ c.in_ok-insert.ensures.updates
