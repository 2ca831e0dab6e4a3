use Rattle.std.proofs.Common.{◌≡◌, take}
use Rattle.memory_volume.proofs.shared.shared_items.Given as goal

abbrev pub invariant-loop-item : goal.invariant-loop-item
invariant-loop-item l = l.made.items ≡ take l.item-index l.items
