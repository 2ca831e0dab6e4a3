use Rattle.std.proofs.Common.{◌≡◌, ◌++◌, drop, map}
use Rattle.tree_shape.specs.Slow.{node_of}
use Rattle.tree_shape.proofs.slow.slow_peaks.Given as goal

-- the digests so far, and those of the peaks that are left, are all
abbrev pub invariant-loop-i : goal.invariant-loop-i
invariant-loop-i g l =
    let f = node_of g.F.Family.shape g.H.Hasher.hash l.leaves in
    l.digests.items ++ map f (drop l.i l.peaks.items) ≡ map f l.peaks.items
