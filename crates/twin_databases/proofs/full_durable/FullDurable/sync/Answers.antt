use Rattle.std.proofs.Common.{refl}
use Rattle.log_model.specs.Machine.{synced}
use Rattle.twin_databases.proofs.FullDurable.{synced_list, flushed_synced}
use Rattle.twin_databases.proofs.FullMoments.{marks_in, steps_to}
use Rattle.twin_databases.proofs.full_durable.FullDurable.sync.Goals as goal

pub returns-clause-list : goal.returns-clause-list
returns-clause-list g c =
    let made = c.sync.ensures in
    synced_list g.V.Volume.tells c.args.self (g.V.Volume.state c.args.volume.now) (g.V.Volume.state c.sync.new.vol)
    c.sync.result made.journal made.rests made.held made.contents

pub returns-clause-durable : goal.returns-clause-durable
returns-clause-durable g c =
    let made = c.sync.ensures in
    flushed_synced g.V.Volume.tells c.args.self (g.V.Volume.state c.args.volume.now) (g.V.Volume.state c.sync.new.vol)
    c.sync.result made.journal made.durable

pub returns-clause-images : goal.returns-clause-images
returns-clause-images g c told s good is =
    steps_to c.args.self (g.V.Volume.state c.args.volume.now) (g.V.Volume.state c.sync.new.vol) s (synced s)
    c.sync.result refl (c.sync.ensures.images told s.ops (marks_in s) is.held)
