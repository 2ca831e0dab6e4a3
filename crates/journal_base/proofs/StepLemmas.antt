-- More on steps: each leaves what was left.
use Rattle.std.proofs.Common.{◌≡◌, inl, refl, ℕ, ◌-◌, ◌≤◌, max, drop, sym, ap, arith}
use Rattle.volume_base.proofs.StepLemmas.{log_is}
use Rattle.volume_base.specs.Log.{Log, pruned_to, Shrinks, Advances, BecomesOneOf}

pub pruned_below : (log : Log) (to : ℕ) → to ≤ log.start → pruned_to log to ≡ log
pruned_below log to le =
    let starts : max log.start to ≡ log.start = omega (arith, le) in
    let none : to - log.start ≡ 0 = omega (arith, le) in
    log_is _ log starts (ap (λ (n : ℕ). drop n log.items) none)

pub advances_same : (start : ℕ) (log : Log) → Advances start log log
advances_same start log = (0, omega arith, omega arith, sym (pruned_below log 0 (omega arith)))

pub becomes_same : (made log : Log) → BecomesOneOf made log log
becomes_same made log = inl refl

pub shrinks_wider : (end end' : ℕ) (old new : Log) → end' ≤ end → Shrinks end old new → Shrinks end' old new
shrinks_wider end end' old new less (to, le, is) = (to, omega (arith, less, le), is)
