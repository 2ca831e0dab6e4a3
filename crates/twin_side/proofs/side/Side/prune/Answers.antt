use Rattle.twin_batches.proofs.Settling.{prunes}
use Rattle.log_model.specs.Machine.{pruned}
use Rattle.twin_side.proofs.SideImages.{made_images, failed_images}
use Rattle.twin_side.proofs.side.Side.prune.Goals as goal

pub returns-in-Ok-clause-state : goal.returns-in-Ok-clause-state
returns-in-Ok-clause-state g c =
    prunes g.D.Database.kind g.V.Volume.tells _ _ c.args.self.db c.in-Ok.db c.args.self.numbers c.args.location
    c.in-Ok.ensures.list

pub returns-in-Ok-clause-images : goal.returns-in-Ok-clause-images
returns-in-Ok-clause-images g c = λ told durable config.
    made_images g.D.Database.kind _ _ c.args.self.db c.args.self.numbers g.V.Volume.tells
    (λ s. pruned config.log_blob config.witness_blob s c.args.location) _ _
    (λ tells. c.in-Ok.ensures.images tells durable config) told

pub returns-in-Err-clause-images : goal.returns-in-Err-clause-images
returns-in-Err-clause-images g c = λ told durable config.
    failed_images g.D.Database.kind _ _ c.args.self.db c.args.self.numbers g.V.Volume.tells
    (λ s. pruned config.log_blob config.witness_blob s c.args.location) _
    (λ tells. c.in-Err.ensures.images tells durable config) told
