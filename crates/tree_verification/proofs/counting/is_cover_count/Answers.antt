use Rattle.std.proofs.Common.{◌≡◌, ◌-◌, length, arith}
use Rattle.tree_shape.proofs.PeakLemmas.{peaks_left, all_left, none_left, next_of_left, first_walk}
use Rattle.tree_verification.proofs.ToldLemmas.{count-all, count-next, count-none, all-counted}
use Rattle.tree_verification.proofs.counting.is_cover_count.Goals as goal

pub loop-i-init : goal.loop-i-init
loop-i-init g c =
    let s = g.F.Family.shape in
    let n = c.args.leaves in
    let all : c.peak_count-count.result - 0 ≡ length (s.heights n) = omega (arith, c.peak_count-count.ensures) in
    record {
      walk = first_walk s n c.peak_count-count.result (g.met.F.Family.lawful.peaks n) c.requires.few c.peak_count-count.ensures;
      counted = omega (arith, count-all s (g.W.Wanted.met c.args.wanted.now) n _ (all_left s n _ all));
    }

pub left_behind-requires-clause-few : goal.left_behind-requires-clause-few
left_behind-requires-clause-few g c =
    let n = c.args.leaves in
    (next_of_left g.F.Family.shape n c.loop-i.x c.peak_count-count.result c.loop-i.i c.peak_height-height.result (g.met.F.Family.lawful.peaks n) c.loop-i.invariant.walk c.loop-i-test.true c.peak_height-height.ensures).room

pub left_behind-requires-clause-low : goal.left_behind-requires-clause-low
left_behind-requires-clause-low g c =
    let n = c.args.leaves in
    (next_of_left g.F.Family.shape n c.loop-i.x c.peak_count-count.result c.loop-i.i c.peak_height-height.result (g.met.F.Family.lawful.peaks n) c.loop-i.invariant.walk c.loop-i-test.true c.peak_height-height.ensures).low

pub returns-in_default : goal.returns-in_default
returns-in_default g c =
    let s = g.F.Family.shape in
    let met = g.W.Wanted.met c.args.wanted.now in
    let n = c.args.leaves in
    let st = next_of_left s n c.loop-i.x c.peak_count-count.result c.loop-i.i c.peak_height-height.result (g.met.F.Family.lawful.peaks n) c.loop-i.invariant.walk c.loop-i-test.true c.peak_height-height.ensures in
    (λ no. absurd (cc), λ e. absurd (omega (arith, e, c.loop-i.invariant.counted, (c.in_default.ensures {u = tt}).none, count-next met _ _ _ _ st.are)))

pub width-x-requires : goal.width-x-requires
width-x-requires g c =
    let n = c.args.leaves in
    let st = next_of_left g.F.Family.shape n c.loop-i.x c.peak_count-count.result c.loop-i.i c.peak_height-height.result (g.met.F.Family.lawful.peaks n) c.loop-i.invariant.walk c.loop-i-test.true c.peak_height-height.ensures in
    omega (arith, st.low)

pub overflow_add-x : goal.overflow_add-x
overflow_add-x g c =
    let n = c.args.leaves in
    let st = next_of_left g.F.Family.shape n c.loop-i.x c.peak_count-count.result c.loop-i.i c.peak_height-height.result (g.met.F.Family.lawful.peaks n) c.loop-i.invariant.walk c.loop-i-test.true c.peak_height-height.ensures in
    omega (arith, st.room, c.width-x.ensures)

pub loop-i-preserved : goal.loop-i-preserved
loop-i-preserved g c =
    let s = g.F.Family.shape in
    let met = g.W.Wanted.met c.args.wanted.now in
    let n = c.args.leaves in
    let st = next_of_left s n c.loop-i.x c.peak_count-count.result c.loop-i.i c.peak_height-height.result (g.met.F.Family.lawful.peaks n) c.loop-i.invariant.walk c.loop-i-test.true c.peak_height-height.ensures in
    record {
      walk = rw c.width-x.ensures st.next;
      counted = omega (arith, c.loop-i.invariant.counted, (c.in-Some.ensures {u = tt}).some, count-next met _ _ _ _ st.are);
    }

pub returns : goal.returns
returns g c =
    let s = g.F.Family.shape in
    let n = c.args.leaves in
    let left = c.peak_count-count.result - c.loop-i.i in
    let none = count-none (g.W.Wanted.met c.args.wanted.now) (peaks_left s n left) (none_left s n left (omega arith)) in
    all-counted c.loop-i.left c.args.digests _ (omega (arith, none, c.loop-i.invariant.counted))
