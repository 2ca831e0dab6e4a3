use Rattle.std.proofs.Common.{◌≡◌, suc, ◌+◌, ◌-◌, ◌<◌, ◌∷◌, length, take, sym, ◌∙◌, ap, arith}
use Rattle.tree_shape.specs.Root.{fold_forward}
use Rattle.tree_shape.specs.Pins.{base}
use Rattle.tree_core.proofs.FoldLemmas.{steps_up, oldest_at, read_is, first_step}
use Rattle.tree_core.proofs.peaks.fold_first.Goals as goal

pub read-folded-requires-clause-small : goal.read-folded-requires-clause-small
read-folded-requires-clause-small g c =
    let i : suc (c.peak_count-count.result - 1) ≡ length (g.F.Family.shape.heights c.args.leaves) = omega (arith, c.peak_count-count.ensures) in
    let st = steps_up g.F.Family.shape c.args.leaves (c.peak_count-count.result - 1) 0 c.peak_height-oldest.result g.met.F.Family.lawful c.requires.few
    (omega (arith, c.peak_count-count.ensures)) (oldest_at g.F.Family.shape c.args.leaves (suc (c.peak_count-count.result - 1)) g.met.F.Family.lawful i) c.peak_height-oldest.ensures in
    st.room

pub read-folded-requires-clause-there : goal.read-folded-requires-clause-there
read-folded-requires-clause-there g c =
    let i : suc (c.peak_count-count.result - 1) ≡ length (g.F.Family.shape.heights c.args.leaves) = omega (arith, c.peak_count-count.ensures) in
    let st = steps_up g.F.Family.shape c.args.leaves (c.peak_count-count.result - 1) 0 c.peak_height-oldest.result g.met.F.Family.lawful c.requires.few
    (omega (arith, c.peak_count-count.ensures)) (oldest_at g.F.Family.shape c.args.leaves (suc (c.peak_count-count.result - 1)) g.met.F.Family.lawful i) c.peak_height-oldest.ensures in
    c.requires.there 0 c.peak_height-oldest.result st.peak

pub width-start-requires : goal.width-start-requires
width-start-requires g c =
    let i : suc (c.peak_count-count.result - 1) ≡ length (g.F.Family.shape.heights c.args.leaves) = omega (arith, c.peak_count-count.ensures) in
    let st = steps_up g.F.Family.shape c.args.leaves (c.peak_count-count.result - 1) 0 c.peak_height-oldest.result g.met.F.Family.lawful c.requires.few
    (omega (arith, c.peak_count-count.ensures)) (oldest_at g.F.Family.shape c.args.leaves (suc (c.peak_count-count.result - 1)) g.met.F.Family.lawful i) c.peak_height-oldest.ensures in
    omega (arith, st.low)

pub loop-j-init : goal.loop-j-init
loop-j-init g c =
    let i : suc (c.peak_count-count.result - 1) ≡ length (g.F.Family.shape.heights c.args.leaves) = omega (arith, c.peak_count-count.ensures) in
    let st = steps_up g.F.Family.shape c.args.leaves (c.peak_count-count.result - 1) 0 c.peak_height-oldest.result g.met.F.Family.lawful c.requires.few
    (omega (arith, c.peak_count-count.ensures)) (oldest_at g.F.Family.shape c.args.leaves (suc (c.peak_count-count.result - 1)) g.met.F.Family.lawful i) c.peak_height-oldest.ensures in
    let lt : c.peak_count-count.result - 1 < length (g.F.Family.shape.heights c.args.leaves) = omega (arith, c.peak_count-count.ensures) in
    record {
      at =
          let e : base c.args.leaves (g.F.Family.shape.heights c.args.leaves) (c.peak_count-count.result - 1) ≡ base c.args.leaves (g.F.Family.shape.heights c.args.leaves) (length (g.F.Family.shape.heights c.args.leaves) - 1) =
          ap (λ m. base c.args.leaves (g.F.Family.shape.heights c.args.leaves) (m - 1)) c.peak_count-count.ensures in
          omega (arith, c.width-start.ensures, st.at, e);
      told = λ d ds p.
          let is = read_is g.F.Family.shape c.args.leaves (g.P.Peaks.told c.args.peaks.now) (d ∷ ds) (c.peak_count-count.result - 1) 0 0 c.peak_height-oldest.result c.read-folded.result d p lt
          (omega (arith, i)) (oldest_at g.F.Family.shape c.args.leaves (suc (c.peak_count-count.result - 1)) g.met.F.Family.lawful i) c.peak_height-oldest.ensures c.read-folded.ensures in
          ap (λ a. fold_forward g.H.Hasher.hash a (take (c.args.first - 1) ds)) is;
    }

pub read-requires-clause-small : goal.read-requires-clause-small
read-requires-clause-small g c =
    let i : suc (c.peak_count-count.result - 1 - c.loop-j.j) ≡ length (g.F.Family.shape.heights c.args.leaves) - c.loop-j.j = omega (arith, c.peak_count-count.ensures) in
    let st = steps_up g.F.Family.shape c.args.leaves (c.peak_count-count.result - 1 - c.loop-j.j) c.loop-j.start c.peak_height-height.result g.met.F.Family.lawful c.requires.few
    (omega (arith, c.peak_count-count.ensures)) (c.loop-j.invariant.at ∙ ap (base c.args.leaves (g.F.Family.shape.heights c.args.leaves)) (sym i)) c.peak_height-height.ensures in
    st.room

pub read-requires-clause-there : goal.read-requires-clause-there
read-requires-clause-there g c =
    let i : suc (c.peak_count-count.result - 1 - c.loop-j.j) ≡ length (g.F.Family.shape.heights c.args.leaves) - c.loop-j.j = omega (arith, c.peak_count-count.ensures) in
    let st = steps_up g.F.Family.shape c.args.leaves (c.peak_count-count.result - 1 - c.loop-j.j) c.loop-j.start c.peak_height-height.result g.met.F.Family.lawful c.requires.few
    (omega (arith, c.peak_count-count.ensures)) (c.loop-j.invariant.at ∙ ap (base c.args.leaves (g.F.Family.shape.heights c.args.leaves)) (sym i)) c.peak_height-height.ensures in
    c.requires.there c.loop-j.start c.peak_height-height.result st.peak

pub width-start-requires-in-loop-j : goal.width-start-requires-in-loop-j
width-start-requires-in-loop-j g c =
    let i : suc (c.peak_count-count.result - 1 - c.loop-j.j) ≡ length (g.F.Family.shape.heights c.args.leaves) - c.loop-j.j = omega (arith, c.peak_count-count.ensures) in
    let st = steps_up g.F.Family.shape c.args.leaves (c.peak_count-count.result - 1 - c.loop-j.j) c.loop-j.start c.peak_height-height.result g.met.F.Family.lawful c.requires.few
    (omega (arith, c.peak_count-count.ensures)) (c.loop-j.invariant.at ∙ ap (base c.args.leaves (g.F.Family.shape.heights c.args.leaves)) (sym i)) c.peak_height-height.ensures in
    omega (arith, st.low)

pub overflow_add-start : goal.overflow_add-start
overflow_add-start g c =
    let i : suc (c.peak_count-count.result - 1 - c.loop-j.j) ≡ length (g.F.Family.shape.heights c.args.leaves) - c.loop-j.j = omega (arith, c.peak_count-count.ensures) in
    let st = steps_up g.F.Family.shape c.args.leaves (c.peak_count-count.result - 1 - c.loop-j.j) c.loop-j.start c.peak_height-height.result g.met.F.Family.lawful c.requires.few
    (omega (arith, c.peak_count-count.ensures)) (c.loop-j.invariant.at ∙ ap (base c.args.leaves (g.F.Family.shape.heights c.args.leaves)) (sym i)) c.peak_height-height.ensures in
    omega (arith, st.room, c.width-start-in-loop-j.ensures)

pub loop-j-preserved : goal.loop-j-preserved
loop-j-preserved g c =
    let i : suc (c.peak_count-count.result - 1 - c.loop-j.j) ≡ length (g.F.Family.shape.heights c.args.leaves) - c.loop-j.j = omega (arith, c.peak_count-count.ensures) in
    let st = steps_up g.F.Family.shape c.args.leaves (c.peak_count-count.result - 1 - c.loop-j.j) c.loop-j.start c.peak_height-height.result g.met.F.Family.lawful c.requires.few
    (omega (arith, c.peak_count-count.ensures)) (c.loop-j.invariant.at ∙ ap (base c.args.leaves (g.F.Family.shape.heights c.args.leaves)) (sym i)) c.peak_height-height.ensures in
    let lt : c.peak_count-count.result - 1 - c.loop-j.j < length (g.F.Family.shape.heights c.args.leaves) = omega (arith, c.peak_count-count.ensures) in
    let j : c.peak_count-count.result - 1 - c.loop-j.j + c.loop-j.j + 1 ≡ length (g.F.Family.shape.heights c.args.leaves) = omega (arith, c.peak_count-count.ensures) in
    let next : c.peak_count-count.result - 1 - c.loop-j.j ≡ length (g.F.Family.shape.heights c.args.leaves) - (c.loop-j.j + 1) = omega (arith, c.peak_count-count.ensures) in
    record {
      at = rw c.width-start-in-loop-j.ensures (st.at ∙ ap (base c.args.leaves (g.F.Family.shape.heights c.args.leaves)) next);
      told = λ d ds p.
          let is = read_is g.F.Family.shape c.args.leaves (g.P.Peaks.told c.args.peaks.now) (d ∷ ds) (c.peak_count-count.result - 1 - c.loop-j.j) c.loop-j.j c.loop-j.start c.peak_height-height.result c.read.result d p lt
          j (c.loop-j.invariant.at ∙ ap (base c.args.leaves (g.F.Family.shape.heights c.args.leaves)) (sym i)) c.peak_height-height.ensures c.read.ensures in
          rw c.fold-folded.ensures (first_step g.H.Hasher.hash c.loop-j.folded d ds c.args.first c.loop-j.j c.read.result (omega arith) (omega arith) (let l = p.counted in omega (arith, l, c.requires.within)) is) ∙ c.loop-j.invariant.told d ds p;
    }
