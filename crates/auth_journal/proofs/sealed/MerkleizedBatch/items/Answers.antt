use Rattle.std.proofs.Common.{Global, List, map, ◌≡◌, suc, ◌-◌, ◌≤◌, length, refl, sym, ◌∙◌, ap, subst, arith}
use Rattle.std.proofs.lemmas.List.{length-map}
use Rattle.std.proofs.lemmas.Option.{slice_get_read}
use Rattle.std.specs.declared.rc.Rc.{Rc}
use Rattle.auth_journal.specs.declared.segment.Segment.{Segment}
use Rattle.auth_journal.specs.Batched.{SealedItems, own_length}
use Rattle.auth_journal.proofs.BatchLemmas.{counted_length, joined_count}
use Rattle.auth_journal.proofs.ListLemmas.{last_read, last_within}
use Rattle.auth_journal.proofs.sealed.MerkleizedBatch.items.Goals as goal

pub returns-clause-counted : goal.returns-clause-counted
returns-clause-counted g c =
    let xs = c.self.inside.items.items in
    let sound = c.leaves-sound.ensures.sound in
    let many = counted_length c.self.inside.nodes.links _ c.self.invariant in
    let k : suc (c.len.result - 1) ≡ length xs = omega (arith, c.len.ensures, c.self.inside.items.ok.0, sound.some, many, length-map xs (λ l. l.value)) in
    let read = slice_get_read xs (length xs) (c.len.result - 1) c.index.result.now refl (omega (arith, k)) c.index.ensures in
    ap length (c.items.ensures ∙ c.deref.ensures) ∙ sym (last_read _ xs (c.len.result - 1) c.index.result.now read k) ∙ ap (λ (b : SealedItems g.row.D.Denot g.row.Item.Denot). own_length b) c.self.view_is

pub returns-clause-within : goal.returns-clause-within
returns-clause-within g c =
    let f : Rc (Segment g.row.Item.Denot) Global → List g.row.Item.Denot = λ r. r.value in
    let xs = c.self.inside.items.items in
    let sound = c.leaves-sound.ensures.sound in
    let many = counted_length c.self.inside.nodes.links _ c.self.invariant in
    let k : suc (c.len.result - 1) ≡ length xs = omega (arith, c.len.ensures, c.self.inside.items.ok.0, sound.some, many, length-map xs (λ l. l.value)) in
    let read = slice_get_read xs (length xs) (c.len.result - 1) c.index.result.now refl (omega (arith, k)) c.index.ensures in
    let own = ap length (c.items.ensures ∙ c.deref.ensures) ∙ sym (last_read f xs (c.len.result - 1) c.index.result.now read k) in
    let all = joined_count g.F.Family.shape c.self.inside.nodes.first c.self.inside.nodes.links c.self.inside.nodes.leaves (map f xs) sound.linked c.self.invariant in
    subst (λ (b : SealedItems g.row.D.Denot g.row.Item.Denot). length c.items.result.now ≤ b.nodes.leaves) c.self.view_is (omega (arith, own, last_within (map f xs), all))
