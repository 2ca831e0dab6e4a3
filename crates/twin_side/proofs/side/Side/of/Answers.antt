use Rattle.twin_batches.proofs.Handlers.{opened_shape, opened_state}
use Rattle.twin_side.proofs.side.Side.of.Goals as goal

pub returns-clause-shaped : goal.returns-clause-shaped
returns-clause-shaped g c = opened_shape g.D.Database.kind c.new.result c.new.ensures.batches c.new.ensures.pool c.new.ensures.taken

pub returns-clause-state : goal.returns-clause-state
returns-clause-state g c image s none of =
    opened_state g.D.Database.kind image c.args.db c.new.result s none c.new.ensures.batches c.new.ensures.pool of
