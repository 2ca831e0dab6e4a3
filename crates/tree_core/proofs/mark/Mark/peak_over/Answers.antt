use Rattle.std.proofs.Common.{◌<◌, length, sym, ◌∙◌, arith, add-one}
use Rattle.tree_shape.specs.Shape.{made}
use Rattle.tree_shape.proofs.NodeLemmas.{next_peak, peak_room}
use Rattle.tree_core.proofs.Held.{step_found}
use Rattle.tree_core.proofs.mark.Mark.peak_over.Goals as goal

pub width-end-requires : goal.width-end-requires
width-end-requires g c =
    let s = g.F.Family.shape in let hs = s.heights c.args.self.now.leaves in
    let lt : c.loop-i.i < length (s.heights c.args.self.now.leaves) = omega (arith, c.loop-i-test.true, c.peak_count-count.ensures) in
    let r = peak_room s (made s c.args.self.now.leaves) c.loop-i.end c.args.self.now.leaves c.loop-i.i hs c.loop-i.invariant.within c.args.self.now.few lt c.loop-i.invariant.stand in
    omega (arith, r.0, c.peak_height-below.ensures)

pub loop-i-preserved : goal.loop-i-preserved
loop-i-preserved g c =
    let s = g.F.Family.shape in let hs = s.heights c.args.self.now.leaves in
    let lt : c.loop-i.i < length (s.heights c.args.self.now.leaves) = omega (arith, c.loop-i-test.true, c.peak_count-count.ensures) in
    let n = next_peak s (made s c.args.self.now.leaves) c.loop-i.end c.loop-i.i hs lt c.loop-i.invariant.stand in
    record {
      told = c.loop-i.invariant.told ∙ rw (c.width-end.ensures, c.peak_height-below.ensures, add-one)
          (step_found c.loop-i.end c.loop-i.i hs c.args.self.now.peaks.items c.args.start c.args.height lt c.args.self.now.counted
          (sym (rw (c.width-end.ensures, c.peak_height-below.ensures) at (c.if-is_here.ensures {u = tt}))));
      stand = rw (c.width-end.ensures, c.peak_height-below.ensures) n.1;
      within = omega (arith, c.loop-i.invariant.within);
    }
