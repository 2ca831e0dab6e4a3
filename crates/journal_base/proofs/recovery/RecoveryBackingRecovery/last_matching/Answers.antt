use Rattle.std.proofs.Common.{rules, inl, inr, arith}
use Rattle.journal_base.proofs.recovery.RecoveryBackingRecovery.last_matching.Goals as goal

pub returns-in_err-found-clause-pruned : goal.returns-in_err-found-clause-pruned
returns-in_err-found-clause-pruned g c p is =
    let at = c.match_below.ensures.named p (inl (search rules)) in
    inr (inr (at.0, omega (arith, at.1, c.min.ensures), λ told within. c.match_below.ensures.not_pruned told within p (search rules)))

pub returns-in_err-found-clause-out_of_range : goal.returns-in_err-found-clause-out_of_range
returns-in_err-found-clause-out_of_range g c p is =
    let at = c.match_below.ensures.named p (inr (inl (search rules))) in
    (at.0, omega (arith, at.1, c.min.ensures), λ told within. c.match_below.ensures.not_out_of_range told within p (search rules))

pub returns-in_err-found-clause-corrupt : goal.returns-in_err-found-clause-corrupt
returns-in_err-found-clause-corrupt g c p is =
    let at = c.match_below.ensures.named p (inr (inr (search rules))) in
    let why = λ (told : g.V.Volume.tells). c.match_below.ensures.corrupt told p (search rules) in
    (at.0, omega (arith, at.1, c.min.ensures), λ told. ((why told).2, λ q lo hi. (why told).3 q lo (omega (arith, hi, c.min.ensures))))

pub returns-then-self-gt0-clause-pruned : goal.returns-then-self-gt0-clause-pruned
returns-then-self-gt0-clause-pruned g c p is =
    inr (inl (search rules, c.if-self-gt0.true, omega arith, λ told. rw (c.in_default.is, c.min.ensures) at (c.in_ok-found.ensures.found told)))
