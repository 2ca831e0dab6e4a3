use Rattle.std.proofs.Common.{◌<◌, length, arith}
use Rattle.tree_shape.specs.Shape.{made}
use Rattle.tree_shape.proofs.NodeLemmas.{peak_room}
use Rattle.tree_shape.proofs.PeakLemmas.{peak_decides}
use Rattle.tree_shape.proofs.peaks.is_peak.Goals as goal

pub width-end-requires : goal.width-end-requires
width-end-requires g c =
    let s = g.F.Family.shape in let n = c.args.leaves in
    let lt : c.loop-i.i < length (s.heights n) = omega (arith, c.loop-i-test.true, c.peak_count-count.ensures) in
    let r = peak_room s (made s n) c.loop-i.end n c.loop-i.i (s.heights n) c.loop-i.invariant.within c.requires lt c.loop-i.invariant.stand in
    omega (arith, r.0, c.peak_height-peak.ensures)

pub returns-then-is_node-clause-peak : goal.returns-then-is_node-clause-peak
returns-then-is_node-clause-peak g c = peak_decides c.args.leaves (g.F.Family.shape.heights c.args.leaves) c.args.x c.args.height

pub returns-clause-peak : goal.returns-clause-peak
returns-clause-peak g c = peak_decides c.args.leaves (g.F.Family.shape.heights c.args.leaves) c.args.x c.args.height
