use Rattle.auth_journal.proofs.LowerLemmas.{outside_lowers, outside_lowered}
use Rattle.auth_journal.proofs.MutableLemmas.{writes_done, writes_lowered}
use Rattle.auth_journal.proofs.mutable.JournalMutable.destroy.Goals as goal

pub lower-requires : goal.lower-requires
lower-requires g c = outside_lowers c.in-Err.error c.in-Err.ensures.outside

pub returns-in-Ok-clause-writes : goal.returns-in-Ok-clause-writes
returns-in-Ok-clause-writes g c = writes_done {F = g.row.F.Denot} g.V.Volume.tells (g.V.Volume.state c.args.vol.now) (g.V.Volume.state c.destroy.new.vol) tt tt c.in-Ok.ensures.writes

pub returns-in-Err-clause-errors : goal.returns-in-Err-clause-errors
returns-in-Err-clause-errors g c = outside_lowered c.in-Err.error c.lower.result c.in-Err.ensures.outside c.lower.ensures

pub returns-in-Err-clause-writes : goal.returns-in-Err-clause-writes
returns-in-Err-clause-writes g c = writes_lowered {S = Unit {0}} g.V.Volume.tells (g.V.Volume.state c.args.vol.now) (g.V.Volume.state c.destroy.new.vol) c.in-Err.error c.lower.result c.lower.ensures c.in-Err.ensures.writes
