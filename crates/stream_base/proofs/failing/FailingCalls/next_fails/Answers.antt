use Rattle.std.proofs.Common.{sym, subst}
use Rattle.stream_base.specs.Failing.{IsSteady}
use Rattle.stream_base.proofs.FailingLaws.{steady_after}
use Rattle.stream_base.proofs.failing.FailingCalls.next_fails.Goals as goal

pub returns-else-fails-clause-steady : goal.returns-else-fails-clause-steady
returns-else-fails-clause-steady c h =
    let inside = subst IsSteady (sym c.self.view_is) h in
    (rw c.count_down.ensures (steady_after c.self.inside.ahead.items inside), cc)
