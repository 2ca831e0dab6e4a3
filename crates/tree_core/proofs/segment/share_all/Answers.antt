use Rattle.std.proofs.Common.{length, refl, add-one}
use Rattle.std.proofs.lemmas.Option.{slice_get_read}
use Rattle.tree_core.proofs.LinkLemmas.{share_next, share_end}
use Rattle.tree_core.proofs.segment.share_all.Goals as goal

pub loop-i-preserved : goal.loop-i-preserved
loop-i-preserved g c =
    let read = slice_get_read c.args.segments.now (length c.args.segments.now) c.loop-i.i c.index-segments-i.result refl c.loop-i-test.true c.index-segments-i.is in
    rw (c.in_ok-push.ensures.items, add-one) (share_next _ c.args.segments.now c.loop-i.shared.items c.loop-i.i _ c.index-segments-i.result c.in_ok-clone.field-0 c.loop-i.invariant read (rw c.in_ok-clone.ensures.cases refl))

pub returns : goal.returns
returns g c = share_end _ c.args.segments.now c.loop-i.shared.items c.loop-i.i _ c.loop-i-test.false c.loop-i.invariant
