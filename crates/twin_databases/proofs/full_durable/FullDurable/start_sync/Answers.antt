use Rattle.std.proofs.Common.{Err, refl, ap}
use Rattle.journal_base.specs.Tickets.{is_failed}
use Rattle.log_model.specs.Machine.{synced}
use Rattle.chain_core.specs.declared.error.Error.TheVariants.{Volume}
use Rattle.keyless_db.specs.Durable.{sync_of}
use Rattle.twin_databases.proofs.FullDurable.{started_list}
use Rattle.twin_databases.proofs.FullMoments.{marks_in, done_to, failed_to}
use Rattle.twin_databases.proofs.full_durable.FullDurable.start_sync.Goals as goal

pub returns-in-Ok-default-Done-clause-list : goal.returns-in-Ok-default-Done-clause-list
returns-in-Ok-default-Done-clause-list g c =
    let done = c.in-Ok-default-Done in
    let made = done.ensures in
    started_list g.V.Volume.tells c.args.self (g.V.Volume.state c.args.volume.now)
    (g.V.Volume.state c.start_sync.new.vol) done.db (is_failed done.field-0-1) (ap is_failed done.field-0-1-is)
    made.journal made.rests made.held made.contents

pub returns-in-Ok-default-Done-clause-images : goal.returns-in-Ok-default-Done-clause-images
returns-in-Ok-default-Done-clause-images g c told s good is =
    let done = c.in-Ok-default-Done in
    done_to c.args.self (g.V.Volume.state c.args.volume.now) (g.V.Volume.state c.start_sync.new.vol) s (synced s)
    (sync_of done.field-0-1) done.db (ap sync_of done.field-0-1-is) refl
    (done.ensures.images told s.ops (marks_in s) is.held)

pub returns-in-Ok-default-Failed-clause-images : goal.returns-in-Ok-default-Failed-clause-images
returns-in-Ok-default-Failed-clause-images g c told s good is =
    let failed = c.in-Ok-default-Failed in
    failed_to c.args.self (g.V.Volume.state c.args.volume.now) (g.V.Volume.state c.start_sync.new.vol) s (synced s)
    (sync_of failed.field-0-1) Volume (ap sync_of failed.field-0-1-is) refl
    (failed.ensures.images told s.ops (marks_in s) is.held)

pub returns-in-Err-clause-images : goal.returns-in-Err-clause-images
returns-in-Err-clause-images g c told s good is =
    failed_to c.args.self (g.V.Volume.state c.args.volume.now) (g.V.Volume.state c.start_sync.new.vol) s (synced s)
    (Err c.in-Err.error) c.in-Err.error refl refl (c.in-Err.ensures.images told s.ops (marks_in s) is.held)
