use Rattle.std.proofs.Common.{◌≡◌, suc, ◌+◌, ◌-◌, ◌^◌, ◌<◌, ◌≤◌, length, drop, refl, sym, ◌∙◌, ap, arith}
use Rattle.tree_shape.specs.Pins.{base}
use Rattle.tree_core.proofs.FoldLemmas.{steps_down, read_is, last_step, last_one}
use Rattle.tree_core.proofs.peaks.fold_last.Goals as goal

pub width-requires : goal.width-requires
width-requires g c =
    let st = steps_down g.F.Family.shape c.args.leaves 0 c.args.leaves c.peak_height-newest.result g.met.F.Family.lawful c.requires.few (omega (arith, c.requires.some)) refl c.peak_height-newest.ensures in
    omega (arith, st.low)

pub overflow_sub-end : goal.overflow_sub-end
overflow_sub-end g c =
    let st = steps_down g.F.Family.shape c.args.leaves 0 c.args.leaves c.peak_height-newest.result g.met.F.Family.lawful c.requires.few (omega (arith, c.requires.some)) refl c.peak_height-newest.ensures in
    omega (arith, st.fits, c.width.ensures)

pub read-folded-requires-clause-small : goal.read-folded-requires-clause-small
read-folded-requires-clause-small g c =
    let st = steps_down g.F.Family.shape c.args.leaves 0 c.args.leaves c.peak_height-newest.result g.met.F.Family.lawful c.requires.few (omega (arith, c.requires.some)) refl c.peak_height-newest.ensures in
    rw c.width.ensures st.room

pub read-folded-requires-clause-there : goal.read-folded-requires-clause-there
read-folded-requires-clause-there g c =
    let st = steps_down g.F.Family.shape c.args.leaves 0 c.args.leaves c.peak_height-newest.result g.met.F.Family.lawful c.requires.few (omega (arith, c.requires.some)) refl c.peak_height-newest.ensures in
    rw c.width.ensures (c.requires.there (c.args.leaves - 2 ^ c.peak_height-newest.result) c.peak_height-newest.result st.peak)

pub loop-i-init : goal.loop-i-init
loop-i-init g c =
    let st = steps_down g.F.Family.shape c.args.leaves 0 c.args.leaves c.peak_height-newest.result g.met.F.Family.lawful c.requires.few (omega (arith, c.requires.some)) refl c.peak_height-newest.ensures in
    record {
      at = rw c.width.ensures st.at;
      told = λ ds es d p q.
          let is = read_is g.F.Family.shape c.args.leaves (g.P.Peaks.told c.args.peaks.now) ds 0 (length (g.F.Family.shape.heights c.args.leaves) - 1) (c.args.leaves - 2 ^ c.peak_height-newest.result) c.peak_height-newest.result c.read-folded.result d p (omega (arith, c.requires.some))
          (omega (arith, c.requires.some)) st.at c.peak_height-newest.ensures (rw c.width.ensures at c.read-folded.ensures) in
          last_one g.H.Hasher.hash c.read-folded.result ds es d (length (g.F.Family.shape.heights c.args.leaves) - 1) (let l = p.counted in omega (arith, l, c.requires.some)) q is;
    }

pub width-end-requires : goal.width-end-requires
width-end-requires g c =
    let st = steps_down g.F.Family.shape c.args.leaves c.loop-i.i c.loop-i.end c.peak_height-height.result g.met.F.Family.lawful c.requires.few
    (omega (arith, c.peak_count.ensures)) c.loop-i.invariant.at c.peak_height-height.ensures in
    omega (arith, st.low)

pub overflow_sub-end-in-loop-i : goal.overflow_sub-end-in-loop-i
overflow_sub-end-in-loop-i g c =
    let st = steps_down g.F.Family.shape c.args.leaves c.loop-i.i c.loop-i.end c.peak_height-height.result g.met.F.Family.lawful c.requires.few
    (omega (arith, c.peak_count.ensures)) c.loop-i.invariant.at c.peak_height-height.ensures in
    omega (arith, st.fits, c.width-end.ensures)

pub read-requires-clause-small : goal.read-requires-clause-small
read-requires-clause-small g c =
    let st = steps_down g.F.Family.shape c.args.leaves c.loop-i.i c.loop-i.end c.peak_height-height.result g.met.F.Family.lawful c.requires.few
    (omega (arith, c.peak_count.ensures)) c.loop-i.invariant.at c.peak_height-height.ensures in
    rw c.width-end.ensures st.room

pub read-requires-clause-there : goal.read-requires-clause-there
read-requires-clause-there g c =
    let st = steps_down g.F.Family.shape c.args.leaves c.loop-i.i c.loop-i.end c.peak_height-height.result g.met.F.Family.lawful c.requires.few
    (omega (arith, c.peak_count.ensures)) c.loop-i.invariant.at c.peak_height-height.ensures in
    rw c.width-end.ensures (c.requires.there (c.loop-i.end - 2 ^ c.peak_height-height.result) c.peak_height-height.result st.peak)

pub loop-i-preserved : goal.loop-i-preserved
loop-i-preserved g c =
    let st = steps_down g.F.Family.shape c.args.leaves c.loop-i.i c.loop-i.end c.peak_height-height.result g.met.F.Family.lawful c.requires.few
    (omega (arith, c.peak_count.ensures)) c.loop-i.invariant.at c.peak_height-height.ensures in
    let lt : c.loop-i.i < length (g.F.Family.shape.heights c.args.leaves) = omega (arith, c.peak_count.ensures) in
    let next : suc c.loop-i.i ≡ c.loop-i.i + 1 = omega arith in
    let one : 1 ≤ c.loop-i.i = omega (arith, c.loop-i.auto.i) in
    let j : suc (length (g.F.Family.shape.heights c.args.leaves) - (c.loop-i.i + 1)) ≡ length (g.F.Family.shape.heights c.args.leaves) - c.loop-i.i = omega arith in
    record {
      at = rw c.width-end.ensures (st.at ∙ ap (base c.args.leaves (g.F.Family.shape.heights c.args.leaves)) next);
      told = λ ds es d p q.
          let l = p.counted in
          let is = read_is g.F.Family.shape c.args.leaves (g.P.Peaks.told c.args.peaks.now) ds c.loop-i.i (length (g.F.Family.shape.heights c.args.leaves) - (c.loop-i.i + 1)) (c.loop-i.end - 2 ^ c.peak_height-height.result) c.peak_height-height.result c.read.result d p lt
          (omega arith) st.at c.peak_height-height.ensures (rw c.width-end.ensures at c.read.ensures) in
          c.fold-folded.ensures ∙ last_step g.H.Hasher.hash c.loop-i.folded c.read.result d ds es d (length (g.F.Family.shape.heights c.args.leaves) - (c.loop-i.i + 1)) (omega (arith, l)) is q
          (λ fs f r. c.loop-i.invariant.told ds fs f p (ap (λ m. drop m ds) (sym j) ∙ r)) (omega (arith, l));
    }
