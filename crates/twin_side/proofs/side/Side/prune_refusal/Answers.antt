use Rattle.twin_batches.proofs.Settling.{refused_past, refused_never}
use Rattle.twin_side.proofs.side.Side.prune_refusal.Goals as goal

pub returns-then-location-floor-clause-machine : goal.returns-then-location-floor-clause-machine
returns-then-location-floor-clause-machine g c =
    refused_past g.D.Database.kind c.args.self.now.db c.args.self.now.numbers c.args.location c.floor-floor.result
    c.floor-floor.ensures c.if-location-floor.true

pub returns-clause-machine : goal.returns-clause-machine
returns-clause-machine g c =
    refused_never g.D.Database.kind c.args.self.now.db c.args.self.now.numbers c.args.location c.floor-floor.result
    c.floor-floor.ensures c.if-location-floor.false
