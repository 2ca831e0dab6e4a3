use Rattle.std.proofs.Common.{ℕ, ◌+◌, List, ◌++◌}
use Rattle.std.specs.Option.{option_map_or}
use Rattle.chain_core.specs.Slots.{slot_at, IsReach}
use Rattle.chain_core.proofs.pool.Pool.reach_from.Given as goal

abbrev pub invariant-loop-next : goal.invariant-loop-next
invariant-loop-next g l = (rest : List ℕ) → IsReach (slot_at l.self) l.next rest → IsReach (slot_at l.self) l.fn.link (l.reached.items ++ rest)

abbrev pub decreases-loop-next : goal.decreases-loop-next
decreases-loop-next g l = option_map_or (λ k. k + 1) l.next 0
