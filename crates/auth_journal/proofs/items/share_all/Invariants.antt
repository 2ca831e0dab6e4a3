use Rattle.std.proofs.Common.{◌≡◌, List, map, take}
use Rattle.auth_journal.proofs.items.share_all.Given as goal

abbrev pub invariant-loop-i : goal.invariant-loop-i
invariant-loop-i g l = map {B = List _} (λ r. r.value) l.shared.items ≡ take l.i (map {B = List _} (λ r. r.value) l.lists)
