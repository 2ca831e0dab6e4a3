use Rattle.std.proofs.Common.{◌-◌, ◌<◌, length, get_or, arith}
use Rattle.std.proofs.lemmas.List.{get_or_default}
use Rattle.std.proofs.lemmas.List.Edits.{map_over_more}
use Rattle.stream_base.proofs.failing.count_down.Goals as goal

pub loop-number-preserved : goal.loop-number-preserved
loop-number-preserved c =
    let items = c.loop-number.number-items in
    let i = c.loop-number.number-index in
    let within : i < length c.args.numbers.now.items = omega arith in
    rw c.saturating_sub.ensures (map_over_more (λ n. n - 1) c.args.numbers.now.items items i (get_or items i 0) within c.loop-number.invariant (get_or_default items i 0 _ (omega arith)))
