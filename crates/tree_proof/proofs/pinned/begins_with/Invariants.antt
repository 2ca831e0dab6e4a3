use Rattle.std.proofs.Common.{◌≡◌, take}
use Rattle.tree_proof.proofs.pinned.begins_with.Given as goal

abbrev pub invariant-loop-i : goal.invariant-loop-i
invariant-loop-i g l = take l.i l.front ≡ take l.i l.digests
