use Rattle.std.proofs.Common.{◌≡◌, take}
use Rattle.twin_side.proofs.read_refusals.in_tree.Given as goal

abbrev pub invariant-loop-location : goal.invariant-loop-location
invariant-loop-location l = l.made.items ≡ take l.location-index l.locations
