use Rattle.std.proofs.Common.{◌≡◌, ◌-◌, ◌^◌, ◌<◌, ◌+◌, length, drop, get_or, sym, ap, subst, ◌∙◌, arith}
use Rattle.tree_shape.specs.Shape.{made, PeaksStand}
use Rattle.tree_shape.proofs.NodeLemmas.{peak_room, next_peak}
use Rattle.tree_evidence.proofs.PeakLemmas.{next_is_peak, left_next}
use Rattle.tree_evidence.proofs.peaks.peak_over.Goals as goal

pub width-end-requires : goal.width-end-requires
width-end-requires g c =
    let s = g.F.Family.shape in
    let n = c.args.leaves in
    let r = peak_room s (made s n) c.loop-i.end n c.loop-i.i (s.heights n) c.loop-i.invariant.within c.requires.1 (omega (arith, c.peak_count-i-end.ensures)) c.loop-i.invariant.stand in
    omega (arith, r.0, c.peak_height-height.ensures)

pub returns-then-end-place-clause-peak : goal.returns-then-end-place-clause-peak
returns-then-end-place-clause-peak g c =
    let s = g.F.Family.shape in
    let n = c.args.leaves in
    let lt : c.loop-i.i < length (s.heights n) = omega (arith, c.peak_count-i-end.ensures) in
    next_is_peak s n c.loop-i.end c.loop-i.i c.peak_height-height.result _ c.loop-i.invariant.left lt c.peak_height-height.ensures (ap (λ w. c.loop-i.end - w) c.width-end.ensures)

pub returns-then-end-place-clause-low : goal.returns-then-end-place-clause-low
returns-then-end-place-clause-low g c =
    let s = g.F.Family.shape in
    let n = c.args.leaves in
    let r = peak_room s (made s n) c.loop-i.end n c.loop-i.i (s.heights n) c.loop-i.invariant.within c.requires.1 (omega (arith, c.peak_count-i-end.ensures)) c.loop-i.invariant.stand in
    omega (arith, r.0, c.peak_height-height.ensures)

pub loop-i-preserved : goal.loop-i-preserved
loop-i-preserved g c =
    let s = g.F.Family.shape in
    let n = c.args.leaves in
    let hs = s.heights n in
    let lt : c.loop-i.i < length hs = omega (arith, c.peak_count-i-end.ensures) in
    let here : c.loop-i.end - c.width-end.result ≡ c.loop-i.end - 2 ^ c.peak_height-height.result = ap (λ w. c.loop-i.end - w) c.width-end.ensures in
    let same : c.loop-i.end - c.width-end.result ≡ c.loop-i.end - 2 ^ get_or hs c.loop-i.i 0 = here ∙ ap (λ k. c.loop-i.end - 2 ^ k) c.peak_height-height.ensures in
    let q = next_peak s (made s n) c.loop-i.end c.loop-i.i hs lt c.loop-i.invariant.stand in
    record {
      left = left_next n c.loop-i.end c.loop-i.i c.peak_height-height.result _ hs c.loop-i.invariant.left lt c.peak_height-height.ensures here;
      stand = subst (λ e. PeaksStand s (made s n) e (drop (c.loop-i.i + 1) hs)) (sym same) q.1;
      within = omega (arith, c.loop-i.invariant.within);
      before = omega (arith, c.if-end-place.false);
    }
