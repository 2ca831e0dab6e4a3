use Rattle.std.proofs.Common.{◌≡◌, ◌+◌, List, length, map, drop}
use Rattle.auth_journal.specs.Batched.{joined_items}
use Rattle.auth_journal.proofs.items.count_of.Given as goal

abbrev pub invariant-loop-i : goal.invariant-loop-i
invariant-loop-i g l =
    let lists = map {B = List _} (λ r. r.value) l.lists in
    l.count + length (joined_items (drop l.i lists)) ≡ length (joined_items lists)
