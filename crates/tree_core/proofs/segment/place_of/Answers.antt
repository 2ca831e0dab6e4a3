use Rattle.std.proofs.Common.{ℕ, length, refl, subst, arith, inl, inr, map}
use Rattle.std.specs.Prelude.{IsTrue}
use Rattle.std.proofs.lemmas.Bool.Decides.{eqb_tells}
use Rattle.std.proofs.lemmas.Option.{slice_get_read}
use Rattle.tree_core.specs.Links.{HasMark}
use Rattle.tree_core.proofs.LinkLemmas.{mark_at, mark_within_map}
use Rattle.tree_core.proofs.segment.place_of.Goals as goal

pub loop-i-preserved : goal.loop-i-preserved
loop-i-preserved g c i lt has = elim (eqb_tells i c.loop-i.i) [
  | inl e ↦
      let P : ℕ → Type 0 = λ j. HasMark (map (λ r. r.value) c.args.segments.now) j c.args.mark.now.leaves c.args.mark.now.peaks.items in
      let read = slice_get_read c.args.segments.now (length c.args.segments.now) c.loop-i.i c.index-segments-i.result refl c.loop-i-test.true c.index-segments-i.is in
      let here = mark_at _ c.args.segments.now c.loop-i.i c.args.mark.now.leaves c.index-segments-i.result c.args.mark.now.peaks.items read (subst P e.1 has) in
      let yes : IsTrue c.is_behind.result = c.is_behind.ensures.1 (rw c.deref.ensures here) in
      absurd (let no = c.if-is_behind.false in cc)
  | inr e ↦ c.loop-i.invariant i (omega (arith, e.1)) has
]

pub returns-clause-none : goal.returns-clause-none
returns-clause-none g c none i has =
    let w = mark_within_map _ c.args.segments.now i c.args.mark.now.leaves c.args.mark.now.peaks.items has in
    c.loop-i.invariant i (omega (arith, w, c.loop-i-test.false)) has
