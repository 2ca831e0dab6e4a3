use Rattle.std.proofs.Common.{map}
use Rattle.volume_base.specs.Log.{Grows}
use Rattle.volume_base.proofs.CallLemmas.{log_call_none}
use Rattle.volume_base.proofs.StepLemmas.{grows_same}
use Rattle.journal_base.proofs.append.append_all.Goals as goal

pub returns-then-is_empty-clause-log : goal.returns-then-is_empty-clause-log
returns-then-is_empty-clause-log g c one told =
    let log = (g.V.Volume.state c.args.vol.now).log (g.C.Contiguous.view c.args.journal).name in
    log_call_none (g.C.Contiguous.view c.args.journal).name (Grows log (map g.C.Item.Spelled.spelling c.args.items.now)) (g.V.Volume.state c.args.vol.now) (grows_same log (map g.C.Item.Spelled.spelling c.args.items.now))
