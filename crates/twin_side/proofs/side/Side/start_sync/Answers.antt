use Rattle.std.proofs.Common.{refl}
use Rattle.log_model.specs.Machine.{synced}
use Rattle.twin_batches.specs.Kind.{kept_synced}
use Rattle.twin_batches.proofs.Settling.{settles}
use Rattle.twin_side.proofs.SideImages.{made_images, failed_images}
use Rattle.twin_side.proofs.side.Side.start_sync.Goals as goal

pub returns-in-Ok-clause-state : goal.returns-in-Ok-clause-state
returns-in-Ok-clause-state g c =
    settles g.D.Database.kind g.V.Volume.tells _ _ c.args.self.db c.in-Ok.db c.args.self.numbers synced
    kept_synced (λ s. refl) (λ s. refl) c.in-Ok.ensures.list

pub returns-in-Ok-clause-images : goal.returns-in-Ok-clause-images
returns-in-Ok-clause-images g c =
    made_images g.D.Database.kind _ _ c.args.self.db c.args.self.numbers g.V.Volume.tells synced _ _
    c.in-Ok.ensures.images

pub returns-in-Err-clause-images : goal.returns-in-Err-clause-images
returns-in-Err-clause-images g c =
    failed_images g.D.Database.kind _ _ c.args.self.db c.args.self.numbers g.V.Volume.tells synced _
    c.in-Err.ensures.images
