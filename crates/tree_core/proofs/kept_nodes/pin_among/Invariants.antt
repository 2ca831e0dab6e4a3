use Rattle.std.proofs.Common.{◌≡◌, take, None}
use Rattle.tree_core.specs.KeptNodes.{entry_at}
use Rattle.tree_core.proofs.kept_nodes.pin_among.Given as goal

abbrev pub invariant-loop-i : goal.invariant-loop-i
invariant-loop-i g l = entry_at (take l.i l.pins) l.position ≡ None
