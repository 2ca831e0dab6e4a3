use Rattle.std.proofs.Common.{◌<◌, length, ◌∙◌, ap, arith, length-append}
use Rattle.tree_shape.specs.Shape.{made}
use Rattle.tree_shape.proofs.NodeLemmas.{next_peak, peak_room}
use Rattle.tree_core.proofs.Since.{in_here, in_later}
use Rattle.tree_core.proofs.MarkLemmas.{peak_told}
use Rattle.tree_core.proofs.growth.mark_of.Goals as goal

pub width-end-requires : goal.width-end-requires
width-end-requires g c =
    let s = g.F.Family.shape in let n = c.args.leaves in
    let lt : c.loop-i.i < length (s.heights c.args.leaves) = omega (arith, c.loop-i-test.true, c.peak_count-count.ensures) in
    let r = peak_room s (made s n) c.loop-i.end n c.loop-i.i (s.heights n) c.loop-i.invariant.within c.requires.few lt c.loop-i.invariant.stand in
    omega (arith, r.0, c.peak_height-height.ensures)

pub read-requires-clause-there : goal.read-requires-clause-there
read-requires-clause-there g c =
    let s = g.F.Family.shape in let n = c.args.leaves in
    let lt : c.loop-i.i < length (s.heights c.args.leaves) = omega (arith, c.loop-i-test.true, c.peak_count-count.ensures) in
    rw (c.width-end.ensures, c.peak_height-height.ensures)
    (c.requires.there _ _ (c.loop-i.invariant.near _ _ (in_here c.loop-i.end c.loop-i.i (s.heights n) lt)))

pub loop-i-preserved : goal.loop-i-preserved
loop-i-preserved g c =
    let s = g.F.Family.shape in let n = c.args.leaves in let hs = s.heights c.args.leaves in
    let lt : c.loop-i.i < length (s.heights c.args.leaves) = omega (arith, c.loop-i-test.true, c.peak_count-count.ensures) in
    let r = next_peak s (made s n) c.loop-i.end c.loop-i.i hs lt c.loop-i.invariant.stand in
    record {
      counted = ap length c.in_ok-push.ensures.items ∙ length-append c.loop-i.digests.items _ ∙ omega (arith, c.loop-i.invariant.counted);
      stand = rw (c.width-end.ensures, c.peak_height-height.ensures) r.1;
      within = omega (arith, c.loop-i.invariant.within);
      near = λ x k p. c.loop-i.invariant.near x k (in_later c.loop-i.end c.loop-i.i hs x k lt (rw (c.width-end.ensures, c.peak_height-height.ensures) at p));
      told = rw (c.in_ok-push.ensures.items, c.width-end.ensures, c.peak_height-height.ensures)
          (peak_told (g.P.Peaks.told c.args.peaks.now) c.loop-i.end c.loop-i.i hs c.loop-i.digests.items c.read.result _ lt (rw (c.width-end.ensures, c.peak_height-height.ensures) at c.read.ensures) c.loop-i.invariant.told);
    }
