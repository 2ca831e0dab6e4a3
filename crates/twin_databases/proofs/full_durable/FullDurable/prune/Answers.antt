use Rattle.twin_databases.proofs.FullDurable.{pruned_list, pruned_durable}
use Rattle.twin_databases.proofs.FullMoments.{marks_in, prunes_to}
use Rattle.twin_databases.proofs.full_durable.FullDurable.prune.Goals as goal

pub returns-clause-list : goal.returns-clause-list
returns-clause-list g c =
    let made = c.prune.ensures in
    pruned_list g.V.Volume.tells c.args.self (g.V.Volume.state c.args.volume.now) (g.V.Volume.state c.prune.new.vol)
    c.new.result c.args.location c.new.ensures c.requires.low
    c.prune.result made.held made.moved made.rests made.pruned

pub returns-clause-durable : goal.returns-clause-durable
returns-clause-durable g c =
    let made = c.prune.ensures in
    pruned_durable g.V.Volume.tells c.args.self (g.V.Volume.state c.args.volume.now) (g.V.Volume.state c.prune.new.vol)
    c.prune.result made.moved made.durable

pub returns-clause-images : goal.returns-clause-images
returns-clause-images g c told durable config s good is =
    prunes_to c.args.self (g.V.Volume.state c.args.volume.now) (g.V.Volume.state c.prune.new.vol) s config.log_blob
    config.witness_blob c.new.result c.args.location c.prune.result c.new.ensures
    (c.prune.ensures.images told s.ops (marks_in s) is.held)
