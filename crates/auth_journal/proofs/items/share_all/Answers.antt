use Rattle.std.proofs.Common.{length, refl, add-one}
use Rattle.std.proofs.lemmas.Option.{slice_get_read}
use Rattle.auth_journal.proofs.ListLemmas.{shared_next, shared_all}
use Rattle.auth_journal.proofs.items.share_all.Goals as goal

pub loop-i-preserved : goal.loop-i-preserved
loop-i-preserved g c =
    let read = slice_get_read c.args.lists.now (length c.args.lists.now) c.loop-i.i c.index-lists-i.result refl c.loop-i-test.true c.index-lists-i.is in
    rw (c.in_ok-push.ensures.items, add-one) (shared_next _ c.args.lists.now c.loop-i.shared.items c.loop-i.i c.index-lists-i.result c.in_ok-clone.field-0 c.loop-i.invariant read (rw c.in_ok-clone.ensures.cases refl))

pub returns : goal.returns
returns g c = shared_all _ c.args.lists.now c.loop-i.shared.items c.loop-i.i c.loop-i-test.false c.loop-i.invariant
