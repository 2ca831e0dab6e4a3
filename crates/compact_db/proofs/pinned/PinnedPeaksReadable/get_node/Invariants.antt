use Rattle.std.proofs.Common.{◌≡◌, drop}
use Rattle.std.specs.Prelude.{zip}
use Rattle.tree_core.specs.KeptNodes.{entry_at}
use Rattle.compact_db.specs.Pinned.{pin_at}
use Rattle.compact_db.proofs.pinned.PinnedPeaksReadable.get_node.Given as goal

abbrev pub invariant-loop-i : goal.invariant-loop-i
invariant-loop-i g l =
    entry_at (zip l.positions (drop l.i l.fn.self.pins.now)) l.fn.pos ≡ pin_at g.F.Family.shape l.fn.self.before l.fn.self.pins.now l.fn.pos
