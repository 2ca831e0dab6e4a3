use Rattle.std.proofs.Common.{◌≡◌, length, refl, sym, ◌∙◌, arith, add-one}
use Rattle.std.proofs.lemmas.Option.{slice_get_read}
use Rattle.tree_core.proofs.LinkLemmas.{same_step, bytes_same}
use Rattle.tree_core.proofs.mark.same_digests.Goals as goal

pub loop-i-preserved : goal.loop-i-preserved
loop-i-preserved g c =
    let l : length c.args.a.now ≡ length c.args.b.now = omega (arith, c.if-a-b.false) in
    rw add-one (same_step c.args.a.now c.args.b.now c.loop-i.i c.index-a-i.result c.index-b-i.result l c.loop-i-test.true c.loop-i.invariant
    (slice_get_read c.args.a.now (length c.args.a.now) c.loop-i.i c.index-a-i.result refl c.loop-i-test.true c.index-a-i.is)
    (slice_get_read c.args.b.now (length c.args.b.now) c.loop-i.i c.index-b-i.result refl (omega (arith, c.loop-i-test.true, l)) c.index-b-i.is)
    (g.met.D.Digest.exact _ _ (sym c.as_slice.ensures.bytes ∙ bytes_same c.as_slice.result.now c.as_slice-in-loop-i.result.now (c.if-ne.ensures {u = tt}) ∙ c.as_slice-in-loop-i.ensures.bytes)))
