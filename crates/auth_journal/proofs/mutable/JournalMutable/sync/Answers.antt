use Rattle.std.proofs.Common.{Err, ap}
use Rattle.merkle_full.specs.Flushing.{IsOfFlush}
use Rattle.auth_journal.specs.Durable.{IsFromTree}
use Rattle.auth_journal.specs.Joined.{Joined}
use Rattle.auth_journal.proofs.LowerLemmas.{from_tree_lowers, flush_lowers, lowered_is, outside_lowered}
use Rattle.auth_journal.proofs.MutableLemmas.{flushed_view, volume_stays, writes_done, writes_lowered}
use Rattle.auth_journal.proofs.MutableLemmas.{steps_done, steps_refused}
use Rattle.auth_journal.proofs.mutable.JournalMutable.sync.Goals as goal

pub lower-requires : goal.lower-requires
lower-requires g c =
    let s = g.F.Family.shape in
    from_tree_lowers (IsOfFlush {F = g.row.F.Denot} s c.args.self.tree) c.in-Err.error (flush_lowers s c.args.self.tree) c.in-Err.ensures.errors

pub returns-in-Ok-clause-made : goal.returns-in-Ok-clause-made
returns-in-Ok-clause-made g c = flushed_view c.args.self c.in-Ok.journal c.in-Ok.ensures.same

pub returns-in-Ok-clause-writes : goal.returns-in-Ok-clause-writes
returns-in-Ok-clause-writes g c sound =
    writes_done {F = g.row.F.Denot} g.V.Volume.tells (g.V.Volume.state c.args.vol.now) (g.V.Volume.state c.sync.new.vol) c.in-Ok.journal c.in-Ok.journal (c.in-Ok.ensures.writes sound)

pub returns-in-Err-clause-kept : goal.returns-in-Err-clause-kept
returns-in-Err-clause-kept g c failed =
    let was = c.in-Err.ensures.kept failed in
    (let same = volume_stays {T = Joined g.row.H-Digest.Denot g.row.C-Item-Cfg.Denot} c.in-Err.error c.lower.result was.0 c.lower.ensures in ap Err same, was.1)

pub returns-in-Err-clause-errors : goal.returns-in-Err-clause-errors
returns-in-Err-clause-errors g c = lowered_is (IsFromTree (IsOfFlush {F = g.row.F.Denot} g.F.Family.shape c.args.self.tree)) c.in-Err.error c.lower.result c.in-Err.ensures.errors c.lower.ensures

pub returns-in-Err-clause-outside : goal.returns-in-Err-clause-outside
returns-in-Err-clause-outside g c tells list joined = outside_lowered c.in-Err.error c.lower.result (c.in-Err.ensures.outside tells list joined) c.lower.ensures

pub returns-in-Err-clause-writes : goal.returns-in-Err-clause-writes
returns-in-Err-clause-writes g c sound =
    writes_lowered {S = Joined g.row.H-Digest.Denot g.row.C-Item-Cfg.Denot} g.V.Volume.tells (g.V.Volume.state c.args.vol.now) (g.V.Volume.state c.sync.new.vol) c.in-Err.error c.lower.result c.lower.ensures (c.in-Err.ensures.writes sound)

pub returns-in-Ok-clause-durable : goal.returns-in-Ok-clause-durable
returns-in-Ok-clause-durable g c tells = (c.in-Ok.ensures.durable tells).0

pub returns-in-Ok-clause-images : goal.returns-in-Ok-clause-images
returns-in-Ok-clause-images g c tells list marks joined stood =
    steps_done {F = g.row.F.Denot} (g.V.Volume.state c.args.vol.now) (g.V.Volume.state c.sync.new.vol) c.in-Ok.journal c.in-Ok.journal (c.in-Ok.ensures.images tells list marks joined stood)

pub returns-in-Err-clause-images : goal.returns-in-Err-clause-images
returns-in-Err-clause-images g c tells list marks joined stood =
    steps_refused {S = Joined g.row.H-Digest.Denot g.row.C-Item-Cfg.Denot} (g.V.Volume.state c.args.vol.now) (g.V.Volume.state c.sync.new.vol) c.in-Err.error c.lower.result (c.in-Err.ensures.images tells list marks joined stood)

pub returns-in-Ok-clause-nodes_durable : goal.returns-in-Ok-clause-nodes_durable
returns-in-Ok-clause-nodes_durable g c tells = (c.in-Ok.ensures.durable tells).1
