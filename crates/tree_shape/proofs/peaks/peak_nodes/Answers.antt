use Rattle.std.proofs.Common.{◌++◌, ◌+◌, ◌-◌, ◌^◌, ◌<◌, ◌≤◌, ◌∙◌, sym, ap, subst, arith}
use Rattle.std.specs.Prelude.{All}
use Rattle.tree_shape.specs.Shape.{peaks}
use Rattle.tree_shape.proofs.PeakLemmas.{peaks_left, all_left, next_of_left, first_walk, listed_next, listed_all, peaks-end, small}
use Rattle.tree_shape.proofs.peaks.peak_nodes.Goals as goal

pub loop-i-init : goal.loop-i-init
loop-i-init g c =
    let s = g.F.Family.shape in
    let n = c.args.leaves in
    record {
      walk = first_walk s n c.peak_count-count.result (g.met.F.Family.lawful.peaks n) c.requires c.peak_count-count.ensures;
      listed =
          let left = c.peak_count-count.result - 0 in
          ap (λ ps. ps ++ peaks_left s n left) c.new-nodes.ensures.items ∙ all_left s n left (omega (arith, c.peak_count-count.ensures));
    }

pub width-x-requires : goal.width-x-requires
width-x-requires g c =
    let n = c.args.leaves in
    let st = next_of_left g.F.Family.shape n c.loop-i.x c.peak_count-count.result c.loop-i.i c.peak_height-height.result (g.met.F.Family.lawful.peaks n) c.loop-i.invariant.walk c.loop-i-test.true c.peak_height-height.ensures in
    omega (arith, st.low)

pub overflow_add-x : goal.overflow_add-x
overflow_add-x g c =
    let n = c.args.leaves in
    let st = next_of_left g.F.Family.shape n c.loop-i.x c.peak_count-count.result c.loop-i.i c.peak_height-height.result (g.met.F.Family.lawful.peaks n) c.loop-i.invariant.walk c.loop-i-test.true c.peak_height-height.ensures in
    omega (arith, st.room, c.width-x.ensures)

pub loop-i-preserved : goal.loop-i-preserved
loop-i-preserved g c =
    let s = g.F.Family.shape in
    let n = c.args.leaves in
    let st = next_of_left s n c.loop-i.x c.peak_count-count.result c.loop-i.i c.peak_height-height.result (g.met.F.Family.lawful.peaks n) c.loop-i.invariant.walk c.loop-i-test.true c.peak_height-height.ensures in
    record {
      walk = rw c.width-x.ensures st.next;
      listed = listed_next s n _ _ _ _ _ _ c.loop-i.invariant.listed st.are (c.in_ok-push.ensures {u = tt}).items;
    }

pub returns-clause-nodes : goal.returns-clause-nodes
returns-clause-nodes g c = listed_all g.F.Family.shape c.args.leaves _ _ c.loop-i.invariant.listed (omega arith)

pub returns-clause-small : goal.returns-clause-small
returns-clause-small g c =
    let s = g.F.Family.shape in
    let n = c.args.leaves in
    subst (All (λ p. (p.0 + 2 ^ p.1 ≤ 2 ^ 62) × (p.1 < 63))) (sym (listed_all s n _ _ c.loop-i.invariant.listed (omega arith)))
    (small n (peaks s n) c.requires (peaks-end s n (g.met.F.Family.lawful.peaks n)))
