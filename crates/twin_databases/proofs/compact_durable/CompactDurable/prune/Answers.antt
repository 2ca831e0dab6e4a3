use Rattle.twin_databases.proofs.CompactDurable.{call_settled, prune_list, prune_durable, prune_errors}
use Rattle.twin_databases.proofs.CompactMoments.{pruned_steps}
use Rattle.twin_databases.proofs.compact_durable.CompactDurable.prune.Goals as goal

pub returns-clause-list : goal.returns-clause-list
returns-clause-list g c =
    let made = c.prune.ensures in
    prune_list g.V.Volume.tells c.args.self (g.V.Volume.state c.args.volume.now) (g.V.Volume.state c.prune.new.vol)
    c.new.result c.args.location c.new.ensures c.requires.low c.prune.result made.log made.held made.pruned

pub returns-clause-settled : goal.returns-clause-settled
returns-clause-settled g c =
    let made = c.prune.ensures in
    call_settled g.V.Volume.tells c.args.self (g.V.Volume.state c.args.volume.now) (g.V.Volume.state c.prune.new.vol)
    c.prune.result made.same made.log c.requires.sound

pub returns-clause-durable : goal.returns-clause-durable
returns-clause-durable g c =
    let made = c.prune.ensures in
    prune_durable g.V.Volume.tells c.args.self (g.V.Volume.state c.args.volume.now) (g.V.Volume.state c.prune.new.vol)
    c.prune.result made.log made.durable

pub returns-clause-errors : goal.returns-clause-errors
returns-clause-errors g c =
    prune_errors g.V.Volume.tells c.args.self (g.V.Volume.state c.args.volume.now) (g.V.Volume.state c.prune.new.vol)
    c.prune.result c.prune.ensures.outside

pub returns-clause-images : goal.returns-clause-images
returns-clause-images g c = λ told durable config s good is.
    pruned_steps c.args.self (g.V.Volume.state c.args.volume.now) s good is c.new.result c.args.location c.new.ensures
    g.V.Volume.tells config (g.V.Volume.state c.prune.new.vol) c.prune.result c.prune.ensures.images told durable

pub returns-clause-changes : goal.returns-clause-changes
returns-clause-changes g c = c.prune.ensures.changes c.requires.sound
