use Rattle.std.proofs.Common.{◌≡◌, Global, List, length, refl, add-one, ◌∙◌, ap, arith}
use Rattle.std.proofs.lemmas.Option.{slice_get_read}
use Rattle.std.specs.declared.rc.Rc.{Rc}
use Rattle.auth_journal.specs.declared.segment.Segment.{Segment}
use Rattle.auth_journal.proofs.ListLemmas.{count_next}
use Rattle.auth_journal.proofs.items.count_of.Goals as goal

pub overflow_add-count : goal.overflow_add-count
overflow_add-count g c =
    let f : Rc (Segment g.row.T.Denot) Global → List g.row.T.Denot = λ r. r.value in
    let xs = c.args.lists.now in
    let read = slice_get_read xs (length xs) c.loop-i.i c.index-lists-i.result refl c.loop-i-test.true c.index-lists-i.is in
    let more : length c.items.result.now ≡ length (f c.index-lists-i.result) = ap length (c.items.ensures ∙ c.deref.ensures) in
    let room = c.requires in
    omega (arith, c.loop-i.invariant, count_next f xs c.loop-i.i c.index-lists-i.result read, more, room)

pub loop-i-preserved : goal.loop-i-preserved
loop-i-preserved g c =
    let f : Rc (Segment g.row.T.Denot) Global → List g.row.T.Denot = λ r. r.value in
    let xs = c.args.lists.now in
    let read = slice_get_read xs (length xs) c.loop-i.i c.index-lists-i.result refl c.loop-i-test.true c.index-lists-i.is in
    let more : length c.items.result.now ≡ length (f c.index-lists-i.result) = ap length (c.items.ensures ∙ c.deref.ensures) in
    rw add-one (omega (arith, c.loop-i.invariant, count_next f xs c.loop-i.i c.index-lists-i.result read, more))
