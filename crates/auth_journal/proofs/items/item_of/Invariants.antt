use Rattle.std.proofs.Common.{◌≡◌, List, map, drop}
use Rattle.std.specs.Prelude.{slice_get}
use Rattle.auth_journal.specs.Batched.{joined_items}
use Rattle.auth_journal.proofs.items.item_of.Given as goal

abbrev pub invariant-loop-i : goal.invariant-loop-i
invariant-loop-i g l =
    let lists = map {B = List _} (λ r. r.value) l.lists in
    slice_get (joined_items lists) l.fn.place ≡ slice_get (joined_items (drop l.i lists)) l.left
