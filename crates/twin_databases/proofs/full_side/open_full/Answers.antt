use Rattle.std.specs.Prelude.{string_bytes}
use Rattle.journal_base.specs.View.{config_of}
use Rattle.twin_databases.proofs.FullOpening.{opened_full}
use Rattle.twin_databases.proofs.FullStanding.{outside_alone}
use Rattle.twin_databases.proofs.KeptFronts.{full_errors, opened_keeps}
use Rattle.twin_databases.proofs.OpeningMoments.{keeps_left, settles_left}
use Rattle.twin_databases.proofs.full_side.open_full.Goals as goal

pub returns-clause-held : goal.returns-clause-held
returns-clause-held g c =
    let old = g.V.Volume.state c.args.volume.now in
    opened_full (config_of c.args.cfg.log) old (g.V.Volume.state c.init.new.vol) c.args.cap g.V.Volume.tells
    (old.log (string_bytes c.args.cfg.merkle.nodes))
    (old.map (string_bytes c.args.cfg.merkle.metadata)) c.init.result c.init.ensures.start c.init.ensures.rests
    c.init.ensures.past c.init.ensures.held

pub returns-clause-standing : goal.returns-clause-standing
returns-clause-standing g c some =
    let old = g.V.Volume.state c.args.volume.now in
    outside_alone g.V.Volume.tells c.args.cfg.log.codec.max (old.log (string_bytes c.args.cfg.log.name))
    (old.log (string_bytes c.args.cfg.merkle.nodes)) (old.map (string_bytes c.args.cfg.merkle.metadata)) c.args.cap
    c.init.result (λ told list rest durable run few stands. c.init.ensures.refused told some)

pub returns-clause-errors : goal.returns-clause-errors
returns-clause-errors g c =
    full_errors c.args.cap c.init.result (λ none. (c.init.ensures.bound none).0) c.init.ensures.errors

pub returns-clause-operations : goal.returns-clause-operations
returns-clause-operations g c =
    opened_keeps g.V.Volume.tells (config_of c.args.cfg.log) (g.V.Volume.state c.args.volume.now)
    (g.V.Volume.state c.init.new.vol) c.args.cap c.init.result c.init.ensures.past c.init.ensures.opens

-- ---- what a crash leaves

pub returns-clause-images : goal.returns-clause-images
returns-clause-images g c told s opens has =
    keeps_left g.V.Volume.tells (config_of c.args.cfg.log) (string_bytes c.args.cfg.merkle.nodes)
    (string_bytes c.args.cfg.merkle.metadata) (g.V.Volume.state c.args.volume.now) (g.V.Volume.state c.init.new.vol)
    c.args.cap c.init.result (g.met.V.Volume.contents_left c.args.volume.now) c.init.ensures.images
    c.init.ensures.begins told s opens has

pub returns-clause-settled : goal.returns-clause-settled
returns-clause-settled g c =
    settles_left g.V.Volume.tells (config_of c.args.cfg.log) (string_bytes c.args.cfg.merkle.nodes)
    (string_bytes c.args.cfg.merkle.metadata) (g.V.Volume.state c.args.volume.now) (g.V.Volume.state c.init.new.vol)
    c.args.cap c.init.result (g.met.V.Volume.contents_left c.args.volume.now) c.init.ensures.settled
    c.init.ensures.begins c.init.ensures.opens
