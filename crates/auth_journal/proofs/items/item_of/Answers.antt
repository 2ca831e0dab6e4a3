use Rattle.std.proofs.Common.{◌≡◌, ◌<◌, ◌-◌, Global, List, length, map, drop, suc, refl, add-one, sym, ◌∙◌, ap, arith}
use Rattle.std.specs.Prelude.{slice_get}
use Rattle.std.proofs.lemmas.Option.{slice_get_read}
use Rattle.std.specs.declared.rc.Rc.{Rc}
use Rattle.auth_journal.specs.declared.segment.Segment.{Segment}
use Rattle.auth_journal.specs.Batched.{joined_items}
use Rattle.auth_journal.proofs.ListLemmas.{item_here, item_later, item_none}
use Rattle.auth_journal.proofs.items.item_of.Goals as goal

pub returns-then-left-count : goal.returns-then-left-count
returns-then-left-count g c =
    let f : Rc (Segment g.row.T.Denot) Global → List g.row.T.Denot = λ r. r.value in
    let xs = c.args.lists.now in
    let read = slice_get_read xs (length xs) c.loop-i.i c.index-lists-i.result refl c.loop-i-test.true c.index-lists-i.is in
    let more : c.items-items.result.now ≡ f c.index-lists-i.result = c.items-items.ensures ∙ c.deref.ensures in
    let lt : c.loop-i.left < length (f c.index-lists-i.result) = omega (arith, c.if-left-count.true, ap length more) in
    c.nth.ensures ∙ ap (λ (ys : List g.row.T.Denot). slice_get ys c.loop-i.left) more
    ∙ sym (c.loop-i.invariant ∙ item_here f xs c.loop-i.i c.index-lists-i.result c.loop-i.left read lt)

pub loop-i-preserved : goal.loop-i-preserved
loop-i-preserved g c =
    let f : Rc (Segment g.row.T.Denot) Global → List g.row.T.Denot = λ r. r.value in
    let xs = c.args.lists.now in
    let read = slice_get_read xs (length xs) c.loop-i.i c.index-lists-i.result refl c.loop-i-test.true c.index-lists-i.is in
    let more : c.items-items.result.now ≡ f c.index-lists-i.result = c.items-items.ensures ∙ c.deref.ensures in
    rw add-one (c.loop-i.invariant ∙ item_later f xs c.loop-i.i c.index-lists-i.result c.loop-i.left read (omega (arith, c.if-left-count.false, ap length more))
    ∙ ap (λ (ys : List g.row.T.Denot). slice_get (joined_items (drop (suc c.loop-i.i) (map f xs))) (c.loop-i.left - length ys)) (sym more))

pub returns : goal.returns
returns g c =
    let f : Rc (Segment g.row.T.Denot) Global → List g.row.T.Denot = λ r. r.value in
    sym (c.loop-i.invariant ∙ item_none f c.args.lists.now c.loop-i.i c.loop-i.left c.loop-i-test.false)
