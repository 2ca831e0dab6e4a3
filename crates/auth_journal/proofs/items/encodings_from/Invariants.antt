use Rattle.std.proofs.Common.{◌≡◌, ◌++◌, List, map, drop}
use Rattle.auth_journal.specs.Batched.{joined_items}
use Rattle.auth_journal.proofs.items.encodings_from.Given as goal

abbrev pub invariant-loop-i : goal.invariant-loop-i
invariant-loop-i g l =
    let lists = map {B = List _} (λ r. r.value) l.lists in
    let spelling = g.T.Spelled.spelling in
    l.copies.items ++ map spelling (joined_items (drop l.i lists)) ≡ map spelling (joined_items (drop l.fn.place lists))
