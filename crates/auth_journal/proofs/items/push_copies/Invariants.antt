use Rattle.std.proofs.Common.{◌≡◌, ◌++◌, take}
use Rattle.auth_journal.proofs.items.push_copies.Given as goal

abbrev pub invariant-loop-encoding : goal.invariant-loop-encoding
invariant-loop-encoding l = l.copies.items ≡ l.fn.copies.items ++ take l.encoding-index l.encodings
