use Rattle.std.proofs.Common.{drop, arith, length-drop}
use Rattle.tree_shape.specs.Shape.{made}
use Rattle.tree_shape.proofs.NodeLemmas.{peak_room, all_count}
use Rattle.tree_shape.proofs.inactive.inactive_of.Goals as goal

pub returns-then-end-floor : goal.returns-then-end-floor
returns-then-end-floor g c =
    let s = g.F.Family.shape in
    let hs = s.heights c.args.n in
    let all = all_count s (made s c.args.n) c.args.floor c.loop-i.end (drop c.loop-i.i hs) c.if-end-floor.true c.loop-i.invariant.stand in
    let l = length-drop c.loop-i.i hs in
    omega (arith, all, l, c.loop-i.invariant.told, c.from.ensures, c.peak_count-count.ensures)

pub width-end-requires : goal.width-end-requires
width-end-requires g c =
    let s = g.F.Family.shape in
    let r = peak_room s (made s c.args.n) c.loop-i.end c.args.n c.loop-i.i (s.heights c.args.n) c.loop-i.invariant.within c.requires (omega (arith, c.peak_count-count.ensures)) c.loop-i.invariant.stand in
    omega (arith, r.0, c.peak_height.ensures)
