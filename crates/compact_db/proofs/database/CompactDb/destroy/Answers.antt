use Rattle.std.proofs.Common.{◌≡◌, Ok, Err, subst}
use Rattle.journal_base.specs.View.{log_of, left_of}
use Rattle.volume_base.specs.Log.{no_log, Vanishes}
use Rattle.volume_base.specs.Volume.{OnlyLeft, LogCall}
use Rattle.compact_db.specs.DbView.{DbView, seen_log}
use Rattle.chain_core.specs.Answers.{IsOutside}
use Rattle.compact_db.proofs.SettleLemmas.{err_each, outside_is, passed_err, writes_passed}
use Rattle.compact_db.proofs.database.CompactDb.destroy.Goals as goal

pub returns-in_err-removed-clause-log : goal.returns-in_err-removed-clause-log
returns-in_err-removed-clause-log g c =
    subst (λ (d : DbView g.row.F.Denot g.row.H-Digest.Denot g.row.O.Denot g.row.O-Cfg.Denot). g.V.Volume.tells → LogCall (seen_log d.log).name Vanishes (g.V.Volume.state c.args.vol.now) (g.V.Volume.state c.removed.new.vol)) c.self.view_is c.removed.ensures.log

pub returns-in_err-removed-clause-errors : goal.returns-in_err-removed-clause-errors
returns-in_err-removed-clause-errors g c =
    err_each c.from_residual.result c.in_err-removed.field-0.0 (λ e. IsOutside e) c.from_residual.ensures.1 (outside_is _ c.in_err-removed.field-0.0 c.in_err-removed.ensures.errors)

pub returns-in_err-removed-clause-writes : goal.returns-in_err-removed-clause-writes
returns-in_err-removed-clause-writes g c =
    writes_passed g.V.Volume.tells (g.V.Volume.state c.args.vol.now) (g.V.Volume.state c.removed.new.vol) (Err c.in_err-removed.field-0.0) c.from_residual.result (passed_err (Unit {0}) _ c.from_residual.result c.from_residual.ensures.1) c.in_err-removed.ensures.writes

pub returns-clause-removed : goal.returns-clause-removed
returns-clause-removed g c =
    subst (λ (d : DbView g.row.F.Denot g.row.H-Digest.Denot g.row.O.Denot g.row.O-Cfg.Denot). g.V.Volume.tells → log_of (seen_log d.log) (g.V.Volume.state c.removed.new.vol) ≡ no_log) c.self.view_is c.in_ok-removed.ensures.removed

pub returns-clause-durable : goal.returns-clause-durable
returns-clause-durable g c =
    subst (λ (d : DbView g.row.F.Denot g.row.H-Digest.Denot g.row.O.Denot g.row.O-Cfg.Denot). g.V.Volume.tells → OnlyLeft (left_of (seen_log d.log) (g.V.Volume.state c.removed.new.vol)) no_log) c.self.view_is c.in_ok-removed.ensures.durable

pub returns-clause-log : goal.returns-clause-log
returns-clause-log g c =
    subst (λ (d : DbView g.row.F.Denot g.row.H-Digest.Denot g.row.O.Denot g.row.O-Cfg.Denot). g.V.Volume.tells → LogCall (seen_log d.log).name Vanishes (g.V.Volume.state c.args.vol.now) (g.V.Volume.state c.removed.new.vol)) c.self.view_is c.removed.ensures.log

pub returns-clause-writes : goal.returns-clause-writes
returns-clause-writes g c = writes_passed g.V.Volume.tells (g.V.Volume.state c.args.vol.now) (g.V.Volume.state c.removed.new.vol) (Ok _) (Ok _) tt c.in_ok-removed.ensures.writes
