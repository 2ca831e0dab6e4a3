use Rattle.std.proofs.Common.{ap}
use Rattle.log_model.specs.Machine.{committed, synced}
use Rattle.command_text.specs.declared.command.Command.TheVariants as command
use Rattle.list_machine.specs.Step.{step}
use Rattle.twin_batches.proofs.Commanding.{stored_state, durable_as}
use Rattle.twin_side.proofs.SideImages.{stored_images}
use Rattle.twin_side.proofs.side.Side.store.Goals as goal

pub returns-in-Commit-clause-state : goal.returns-in-Commit-clause-state
returns-in-Commit-clause-state g c = stored_state g.D.Database.kind c.commit.result (λ r. r.db) (λ r. r.numbers) _
    committed c.args.command.now _ _ c.args.self.db c.args.self.numbers
    (λ config s. ap (λ d. (step config s d).1) c.in-Commit.is) c.commit.ensures.state

pub returns-in-Commit-clause-durable : goal.returns-in-Commit-clause-durable
returns-in-Commit-clause-durable g c = durable_as g.D.Database.kind c.commit.result (λ r. r.db) _ c.args.command.now
    command.Commit _ c.in-Commit.is c.commit.ensures.durable

pub returns-in-Sync-clause-state : goal.returns-in-Sync-clause-state
returns-in-Sync-clause-state g c = stored_state g.D.Database.kind c.sync.result (λ r. r.db) (λ r. r.numbers) _
    synced c.args.command.now _ _ c.args.self.db c.args.self.numbers
    (λ config s. ap (λ d. (step config s d).1) c.in-Sync.is) c.sync.ensures.state

pub returns-in-Sync-clause-durable : goal.returns-in-Sync-clause-durable
returns-in-Sync-clause-durable g c = durable_as g.D.Database.kind c.sync.result (λ r. r.db) _ c.args.command.now
    command.Sync _ c.in-Sync.is c.sync.ensures.durable

pub returns-in-StartSync-clause-state : goal.returns-in-StartSync-clause-state
returns-in-StartSync-clause-state g c = stored_state g.D.Database.kind c.start_sync.result (λ r. r.db)
    (λ r. r.numbers) _ synced c.args.command.now _ _ c.args.self.db c.args.self.numbers
    (λ config s. ap (λ d. (step config s d).1) c.in-StartSync.is) c.start_sync.ensures.state

pub returns-in-StartSync-clause-durable : goal.returns-in-StartSync-clause-durable
returns-in-StartSync-clause-durable g c = durable_as g.D.Database.kind c.start_sync.result (λ r. r.db) _
    c.args.command.now command.StartSync _ c.in-StartSync.is c.start_sync.ensures.durable

pub returns-in-Commit-clause-images : goal.returns-in-Commit-clause-images
returns-in-Commit-clause-images g c = stored_images g.D.Database.kind _ _ c.args.self.db c.args.self.numbers
    g.V.Volume.tells committed c.args.command.now _ (λ config s. ap (λ d. (step config s d).1) c.in-Commit.is)
    c.commit.ensures.images

pub returns-in-Sync-clause-images : goal.returns-in-Sync-clause-images
returns-in-Sync-clause-images g c = stored_images g.D.Database.kind _ _ c.args.self.db c.args.self.numbers
    g.V.Volume.tells synced c.args.command.now _ (λ config s. ap (λ d. (step config s d).1) c.in-Sync.is)
    c.sync.ensures.images

pub returns-in-StartSync-clause-images : goal.returns-in-StartSync-clause-images
returns-in-StartSync-clause-images g c = stored_images g.D.Database.kind _ _ c.args.self.db c.args.self.numbers
    g.V.Volume.tells synced c.args.command.now _ (λ config s. ap (λ d. (step config s d).1) c.in-StartSync.is)
    c.start_sync.ensures.images
