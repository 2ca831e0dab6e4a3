use Rattle.std.proofs.Common.{refl}
use Rattle.log_model.specs.Machine.{committed}
use Rattle.twin_databases.proofs.FullDurable.{flushed_list, flushed_durable}
use Rattle.twin_databases.proofs.FullMoments.{marks_in, steps_to}
use Rattle.twin_databases.proofs.full_durable.FullDurable.commit.Goals as goal

pub returns-clause-list : goal.returns-clause-list
returns-clause-list g c =
    let made = c.commit.ensures in
    flushed_list g.V.Volume.tells c.args.self (g.V.Volume.state c.args.volume.now) (g.V.Volume.state c.commit.new.vol)
    c.commit.result made.journal made.rests made.held made.contents

pub returns-clause-durable : goal.returns-clause-durable
returns-clause-durable g c =
    let made = c.commit.ensures in
    flushed_durable g.V.Volume.tells c.args.self (g.V.Volume.state c.args.volume.now)
    (g.V.Volume.state c.commit.new.vol) c.commit.result made.journal made.durable

pub returns-clause-images : goal.returns-clause-images
returns-clause-images g c told s good is =
    steps_to c.args.self (g.V.Volume.state c.args.volume.now) (g.V.Volume.state c.commit.new.vol) s (committed s)
    c.commit.result refl (c.commit.ensures.images told s.ops (marks_in s) is.held)
