use Rattle.std.proofs.Common.{◌≡◌, map, take}
use Rattle.journal_base.proofs.encodings.encode_all.Given as goal

abbrev pub invariant-loop-item : goal.invariant-loop-item
invariant-loop-item g l = l.encodings.items ≡ map g.T.Spelled.spelling (take l.item-index l.items)
