use Rattle.twin_databases.proofs.CompactDurable.{call_list, call_settled, call_durable, call_errors, log_names}
use Rattle.twin_databases.proofs.CompactMoments.{synced_steps}
use Rattle.twin_databases.proofs.compact_durable.CompactDurable.commit.Goals as goal

pub returns-clause-list : goal.returns-clause-list
returns-clause-list g c =
    let made = c.sync.ensures in
    call_list g.V.Volume.tells c.args.self (g.V.Volume.state c.args.volume.now) (g.V.Volume.state c.sync.new.vol)
    c.sync.result made.log made.held (made.syncs c.requires).contents

pub returns-clause-settled : goal.returns-clause-settled
returns-clause-settled g c =
    let made = c.sync.ensures in
    call_settled g.V.Volume.tells c.args.self (g.V.Volume.state c.args.volume.now) (g.V.Volume.state c.sync.new.vol)
    c.sync.result made.same made.log c.requires

pub returns-clause-durable : goal.returns-clause-durable
returns-clause-durable g c =
    let made = c.sync.ensures in
    call_durable g.V.Volume.tells c.args.self (g.V.Volume.state c.args.volume.now) (g.V.Volume.state c.sync.new.vol)
    c.sync.result made.log made.durable

pub returns-clause-errors : goal.returns-clause-errors
returns-clause-errors g c =
    let made = c.sync.ensures.syncs c.requires in
    call_errors g.V.Volume.tells c.args.self (g.V.Volume.state c.args.volume.now) (g.V.Volume.state c.sync.new.vol)
    c.sync.result made.errors made.waiting

pub returns-clause-images : goal.returns-clause-images
returns-clause-images g c = λ told s good is.
    let made = c.sync.ensures in
    synced_steps c.args.self (g.V.Volume.state c.args.volume.now) s good is g.V.Volume.tells
    (g.V.Volume.state c.sync.new.vol) c.sync.result c.sync.result (made.syncs c.requires) made.durable told

pub returns-clause-names : goal.returns-clause-names
returns-clause-names g c = λ told.
    log_names g.V.Volume.tells c.args.self (g.V.Volume.state c.args.volume.now) (g.V.Volume.state c.sync.new.vol) _
    ((c.sync.ensures.syncs c.requires).call told)

pub returns-clause-writes : goal.returns-clause-writes
returns-clause-writes g c = (c.sync.ensures.syncs c.requires).writes
