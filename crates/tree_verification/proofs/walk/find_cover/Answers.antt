use Rattle.std.proofs.Common.{◌<◌, length, map, ap, arith}
use Rattle.std.proofs.lemmas.List.{drop_all}
use Rattle.tree_shape.proofs.PeakLemmas.{next_in}
use Rattle.tree_shape.specs.Pins.{position_of}
use Rattle.tree_proof.specs.Cover.{cover_over}
use Rattle.tree_verification.proofs.WalkLemmas.{found_next, found_all}
use Rattle.tree_verification.proofs.walk.find_cover.Goals as goal

pub loop-i-init : goal.loop-i-init
loop-i-init g c =
    let met = g.W.Wanted.met c.args.wanted.now in
    rw c.new-positions.ensures.items (ap (λ ps. map (position_of g.F.Family.shape) (cover_over met ps)) c.in_ok-peaks.ensures.nodes)

pub loop-i-preserved : goal.loop-i-preserved
loop-i-preserved g c =
    let peaks = c.in_ok-peaks.peaks.items in
    let i = c.loop-i.i in
    let next = c.index.result.now in
    let within : i < length peaks = omega (arith, c.loop-i-test.true, c.len-i-end.ensures) in
    let are = next_in peaks i next within c.index.ensures in
    found_next g.F.Family.shape (g.W.Wanted.met c.args.wanted.now) c.args.leaves _ _ _ _ next.0 next.1 c.loop-i.invariant are c.in_ok-push_cover.ensures

pub returns : goal.returns
returns g c = found_all g.F.Family.shape (g.W.Wanted.met c.args.wanted.now) c.args.leaves _ _ c.loop-i.invariant (drop_all c.loop-i.i c.in_ok-peaks.peaks.items (omega (arith, c.loop-i-test.false, c.len-i-end.ensures)))
