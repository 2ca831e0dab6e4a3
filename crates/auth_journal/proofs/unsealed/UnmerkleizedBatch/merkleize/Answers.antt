use Rattle.std.proofs.Common.{◌≡◌, Global, List, ◌++◌, ◌-◌, length, map, sym, subst, arith}
use Rattle.std.specs.declared.rc.Rc.{Rc}
use Rattle.auth_journal.specs.declared.segment.Segment.{Segment}
use Rattle.auth_journal.specs.Batched.{SealedItems, UnsealedItems, IsSealedOfItems, IsUnsealedOfItems, AreSealedFrom}
use Rattle.auth_journal.specs.Joined.{leaves_of}
use Rattle.auth_journal.proofs.BatchLemmas.{sealed_counted, sealed_items}
use Rattle.auth_journal.proofs.ListLemmas.{lists_pushed}
use Rattle.auth_journal.proofs.unsealed.UnmerkleizedBatch.merkleize.Goals as goal

pub invariant_of-result : goal.invariant_of-result
invariant_of-result g c =
    let f : Rc (Segment g.row.Item.Denot) Global → List g.row.Item.Denot = λ r. r.value in
    let xs = c.self.inside.kept.items in
    let b : UnsealedItems g.row.H-Digest.Denot g.row.Item.Denot = record { nodes = c.self.inside.nodes; bagging = c.self.inside.hasher; kept = map f xs; items = c.self.inside.own } in
    let place : c.len.result - c.args.reached ≡ length xs - c.args.reached = omega (arith, c.len.ensures, c.self.inside.kept.ok.0) in
    let are = lists_pushed f xs c.keep_from.new.kept.items c.push.new.self.items (c.len.result - c.args.reached) c.args.reached c.in_ok-own.own b.items c.keep_from.ensures (c.in_ok-push.ensures {u = tt}).items (c.in_ok-own.ensures {u = tt}).ok place in
    sealed_counted g.F.Family.shape g.H.Hasher.hash g.Item.Spelled.spelling b c.args.reached c.in-Ok.nodes _ c.self.invariant (c.in-Ok.ensures {u = tt}).sealed are

pub returns-in-Ok-clause-sealed : goal.returns-in-Ok-clause-sealed
returns-in-Ok-clause-sealed g c =
    let f : Rc (Segment g.row.Item.Denot) Global → List g.row.Item.Denot = λ r. r.value in
    let xs = c.self.inside.kept.items in
    let made : SealedItems g.row.H-Digest.Denot g.row.Item.Denot = record { nodes = c.in-Ok.nodes; bagging = c.root_bagging.result; items = map f c.push.new.self.items } in
    let place : c.len.result - c.args.reached ≡ length xs - c.args.reached = omega (arith, c.len.ensures, c.self.inside.kept.ok.0) in
    let are = lists_pushed f xs c.keep_from.new.kept.items c.push.new.self.items (c.len.result - c.args.reached) c.args.reached c.in_ok-own.own c.self.inside.own c.keep_from.ensures (c.in_ok-push.ensures {u = tt}).items (c.in_ok-own.ensures {u = tt}).ok place in
    subst (λ (b : UnsealedItems g.row.H-Digest.Denot g.row.Item.Denot). AreSealedFrom b c.args.reached made) c.self.view_is (record { nodes = (c.in-Ok.ensures {u = tt}).sealed; bagging = c.root_bagging.ensures; items = are })

pub returns-in-Ok-clause-batch : goal.returns-in-Ok-clause-batch
returns-in-Ok-clause-batch g c list of =
    let s = g.F.Family.shape in
    let h = g.H.Hasher.hash in
    let spelling = g.Item.Spelled.spelling in
    let f : Rc (Segment g.row.Item.Denot) Global → List g.row.Item.Denot = λ r. r.value in
    let xs = c.self.inside.kept.items in
    let b : UnsealedItems g.row.H-Digest.Denot g.row.Item.Denot = record { nodes = c.self.inside.nodes; bagging = c.self.inside.hasher; kept = map f xs; items = c.self.inside.own } in
    let made : SealedItems g.row.H-Digest.Denot g.row.Item.Denot = record { nodes = c.in-Ok.nodes; bagging = c.root_bagging.result; items = map f c.push.new.self.items } in
    let place : c.len.result - c.args.reached ≡ length xs - c.args.reached = omega (arith, c.len.ensures, c.self.inside.kept.ok.0) in
    let are = lists_pushed f xs c.keep_from.new.kept.items c.push.new.self.items (c.len.result - c.args.reached) c.args.reached c.in_ok-own.own b.items c.keep_from.ensures (c.in_ok-push.ensures {u = tt}).items (c.in_ok-own.ensures {u = tt}).ok place in
    let from : AreSealedFrom b c.args.reached made = record { nodes = (c.in-Ok.ensures {u = tt}).sealed; bagging = c.root_bagging.ensures; items = are } in
    let here = subst (λ (b : UnsealedItems g.row.H-Digest.Denot g.row.Item.Denot). IsUnsealedOfItems s h spelling list b) (sym c.self.view_is) of in
    subst (λ (b : UnsealedItems g.row.H-Digest.Denot g.row.Item.Denot). IsSealedOfItems s h spelling (list ++ b.items) made) c.self.view_is
    (sealed_items s h spelling list b c.args.reached made c.self.invariant c.leaves-leaves.ensures.sound from here ((c.in-Ok.ensures {u = tt}).batch (leaves_of s h spelling list) here.nodes))
