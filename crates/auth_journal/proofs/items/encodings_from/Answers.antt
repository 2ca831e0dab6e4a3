use Rattle.std.proofs.Common.{◌≡◌, ℕ, Global, List, ◌++◌, length, map, drop, suc, refl, add-one, sym, ◌∙◌, ap}
use Rattle.std.proofs.lemmas.List.{map-append}
use Rattle.std.proofs.lemmas.Option.{slice_get_read}
use Rattle.std.specs.declared.rc.Rc.{Rc}
use Rattle.auth_journal.specs.declared.segment.Segment.{Segment}
use Rattle.auth_journal.specs.Batched.{joined_items}
use Rattle.auth_journal.proofs.ListLemmas.{append-nothing, joined_next, joined_none, copied_next}
use Rattle.auth_journal.proofs.items.encodings_from.Goals as goal

pub loop-i-preserved : goal.loop-i-preserved
loop-i-preserved g c =
    let f : Rc (Segment g.row.T.Denot) Global → List g.row.T.Denot = λ r. r.value in
    let spelling = g.T.Spelled.spelling in
    let xs = c.args.lists.now in
    let old = c.loop-i.copies.items in
    let read = slice_get_read xs (length xs) c.loop-i.i c.index-lists-i.result refl c.loop-i-test.true c.index-lists-i.is in
    let pushed = (c.in_ok-push_copies.ensures {u = tt}).copies in
    let own = map spelling (f c.index-lists-i.result) in
    let more : c.encodings.result.now ≡ own = c.encodings.ensures ∙ ap (map spelling) c.deref.ensures in
    let later = joined_items (drop (suc c.loop-i.i) (map f xs)) in
    let rest : List (List ℕ) = map spelling later in
    let next = ap (map spelling) (joined_next f xs c.loop-i.i c.index-lists-i.result read) ∙ map-append spelling (f c.index-lists-i.result) later in
    rw add-one (ap (λ (r : List (List ℕ)). r ++ rest) (pushed ∙ ap (λ (r : List (List ℕ)). old ++ r) more)
    ∙ copied_next old own (map spelling (joined_items (drop c.loop-i.i (map f xs)))) rest _ c.loop-i.invariant next)

pub returns-clause-copies : goal.returns-clause-copies
returns-clause-copies g c =
    let f : Rc (Segment g.row.T.Denot) Global → List g.row.T.Denot = λ r. r.value in
    let spelling = g.T.Spelled.spelling in
    let old = c.loop-i.copies.items in
    sym (append-nothing old) ∙ ap (λ (r : List g.row.T.Denot). old ++ map spelling r) (sym (joined_none f c.args.lists.now c.loop-i.i c.loop-i-test.false)) ∙ c.loop-i.invariant
