use Rattle.std.proofs.Common.{◌≡◌, ◌≤◌, Global, List, [], ◌∷◌, ◌++◌, length, map, sym, ◌∙◌, ap, subst, arith}
use Rattle.std.proofs.lemmas.List.{drop_all}
use Rattle.std.specs.declared.rc.Rc.{Rc}
use Rattle.auth_journal.specs.declared.segment.Segment.{Segment}
use Rattle.tree_core.specs.Tree.{Tree, IsOf}
use Rattle.auth_journal.specs.Batched.{AreCounted, joined_items}
use Rattle.auth_journal.specs.Joined.{Joined, leaves_of}
use Rattle.auth_journal.proofs.BatchLemmas.{one_counted}
use Rattle.auth_journal.proofs.LeafLemmas.{length-leaves_of}
use Rattle.auth_journal.proofs.journal.Journal.to_merkleized_batch.Goals as goal

pub invariant_of-result : goal.invariant_of-result
invariant_of-result g c =
    let f : Rc (Segment g.row.C-Item.Denot) Global → List g.row.C-Item.Denot = λ r. r.value in
    let stands = (c.in_ok-nodes.ensures {u = tt}).stands in
    let links = c.in_ok-nodes.nodes.links in
    let sound = c.leaves-leaves.ensures.sound in
    let lists : map f c.push.new.self.items ≡ [] ∷ [] =
    ap (map f) ((c.in_ok-push.ensures {u = tt}).items ∙ ap (λ xs. xs ++ c.in_ok-new.field-0 ∷ []) c.new-items.ensures.items) ∙ ap (λ (l : List g.row.C-Item.Denot). l ∷ []) ((c.in_ok-new.ensures {u = tt}).ok ∙ c.new.ensures) in
    subst (λ (ls : List (List g.row.C-Item.Denot)). AreCounted links ls) (sym lists)
    (one_counted g.F.Family.shape c.in_ok-nodes.nodes.first c.in_ok-nodes.nodes.leaves links g.row.C-Item.Denot stands.one (stands.first ∙ sym stands.leaves) sound.linked)

pub returns-clause-batch : goal.returns-clause-batch
returns-clause-batch g c list image joined =
    let s = g.F.Family.shape in
    let h = g.H.Hasher.hash in
    let f : Rc (Segment g.row.C-Item.Denot) Global → List g.row.C-Item.Denot = λ r. r.value in
    let stands = (c.in_ok-nodes.ensures {u = tt}).stands in
    let lists : map f c.push.new.self.items ≡ [] ∷ [] =
    ap (map f) ((c.in_ok-push.ensures {u = tt}).items ∙ ap (λ xs. xs ++ c.in_ok-new.field-0 ∷ []) c.new-items.ensures.items) ∙ ap (λ (l : List g.row.C-Item.Denot). l ∷ []) ((c.in_ok-new.ensures {u = tt}).ok ∙ c.new.ensures) in
    let tree : c.mem.result.now ≡ c.args.self.now.tree.tree = c.mem.ensures ∙ ap (λ (j : Joined g.row.H-Digest.Denot g.row.C-Item-Cfg.Denot). j.tree.tree) c.self.view_is in
    let of : IsOf s h (leaves_of s h g.C.Item.Spelled.spelling list) c.mem.result.now = subst (λ (t : Tree g.row.H-Digest.Denot). IsOf s h (leaves_of s h g.C.Item.Spelled.spelling list) t) (sym tree) joined.tree.tree in
    let past : length list ≤ c.in_ok-nodes.nodes.first = omega (arith, stands.first, of.count, length-leaves_of s h g.C.Item.Spelled.spelling list) in
    record {
      nodes = (c.in_ok-nodes.ensures {u = tt}).batch h (leaves_of s h g.C.Item.Spelled.spelling list) of;
      items = ap (joined_items {Item = g.row.C-Item.Denot}) lists ∙ sym (drop_all c.in_ok-nodes.nodes.first list past);
    }
