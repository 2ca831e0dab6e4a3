use Rattle.std.proofs.Common.{ℕ, List, subst}
use Rattle.volume_base.specs.Log.{no_log}
use Rattle.volume_base.specs.Volume.{OnlyLeft}
use Rattle.compact_db.proofs.durable.removed.Goals as goal

pub returns-in_ok-log_remove-in-Import-clause-durable : goal.returns-in_ok-log_remove-in-Import-clause-durable
returns-in_ok-log_remove-in-Import-clause-durable g c told =
    let state = g.V.Volume.state c.log_remove.new.self in
    rw c.in-Import.is (subst (λ (n : List ℕ). OnlyLeft (state.log_left state.clock n) no_log) c.as_str.ensures.value
    (c.in_ok-log_remove-in-Import.ensures.durable told))
