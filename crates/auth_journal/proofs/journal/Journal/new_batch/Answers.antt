use Rattle.std.proofs.Common.{◌≤◌, Global, List, length, map, sym, ◌∙◌, ap, subst, arith}
use Rattle.std.proofs.lemmas.List.{drop_all}
use Rattle.std.specs.declared.rc.Rc.{Rc}
use Rattle.auth_journal.specs.declared.segment.Segment.{Segment}
use Rattle.tree_core.specs.Tree.{IsOf}
use Rattle.auth_journal.specs.Batched.{UnsealedItems, IsUnsealedOfItems, joined_items}
use Rattle.auth_journal.specs.Joined.{Joined, leaves_of}
use Rattle.auth_journal.proofs.LeafLemmas.{length-leaves_of}
use Rattle.auth_journal.proofs.journal.Journal.new_batch.Goals as goal

pub returns-clause-batch : goal.returns-clause-batch
returns-clause-batch g c list image joined =
    let s = g.F.Family.shape in
    let h = g.H.Hasher.hash in
    let spelling = g.C.Item.Spelled.spelling in
    let f : Rc (Segment g.row.C-Item.Denot) Global → List g.row.C-Item.Denot = λ r. r.value in
    let of : IsOf s h (leaves_of s h spelling list) c.self.inside.merkle.tree = subst (λ (j : Joined g.row.H-Digest.Denot g.row.C-Item-Cfg.Denot). IsOf s h (leaves_of s h spelling list) j.tree.tree) (sym c.self.view_is) joined.tree.tree in
    let begins = (c.in_ok-nodes.ensures {u = tt}).begins in
    let past : length list ≤ c.in_ok-nodes.nodes.first = omega (arith, begins.first, of.count, length-leaves_of s h spelling list) in
    subst (λ (b : UnsealedItems g.row.H-Digest.Denot g.row.C-Item.Denot). IsUnsealedOfItems s h spelling list b) (sym c.begin.ensures) (record {
      nodes = (c.in_ok-nodes.ensures {u = tt}).batch h (leaves_of s h spelling list) of;
      items = ap (λ xs. joined_items (map f xs)) c.new.ensures.items ∙ sym (drop_all c.in_ok-nodes.nodes.first list past);
    })
