use Rattle.std.proofs.Common.{◌≡◌, Global, List, [], ◌∷◌, map, sym, ◌∙◌, ap, subst}
use Rattle.std.specs.declared.rc.Rc.{Rc}
use Rattle.auth_journal.specs.declared.segment.Segment.{Segment}
use Rattle.tree_shape.specs.Hashing.{leaf_input}
use Rattle.tree_shape.specs.Slow.{leaf}
use Rattle.tree_core.specs.Batches.{Unsealed, leaf_count, with_digests}
use Rattle.auth_journal.specs.Batched.{UnsealedItems, IsSoundUnsealedItems}
use Rattle.auth_journal.proofs.BatchLemmas.{sound_with}
use Rattle.auth_journal.proofs.unsealed.UnmerkleizedBatch.add.Goals as goal

pub invariant_of-self-in-Ok : goal.invariant_of-self-in-Ok
invariant_of-self-in-Ok g c =
    let s = g.F.Family.shape in
    let h = g.H.Hasher.hash in
    let spelling = g.Item.Spelled.spelling in
    let kept : List (List g.row.Item.Denot) = map (λ (r : Rc (Segment g.row.Item.Denot) Global). r.value) c.self.inside.kept.items in
    let b : UnsealedItems g.row.H-Digest.Denot g.row.Item.Denot = record { nodes = c.self.inside.nodes; bagging = c.self.inside.hasher; kept = kept; items = c.self.inside.own } in
    let more = leaf s h (leaf_count b.nodes) (spelling c.args.item) ∷ [] in
    let place : c.new-position.result ≡ s.position (leaf_count b.nodes) 0 =
    c.new-position.ensures ∙ c.position.ensures ∙ ap (λ n. s.position n 0) (c.as_u64-place.ensures ∙ c.leaves.ensures.leaves) in
    let digest : c.leaf_digest-leaf.result ≡ leaf s h (leaf_count b.nodes) (spelling c.args.item) =
    c.leaf_digest-leaf.ensures ∙ ap (λ p. h.digest (leaf_input p c.as_slice.result.now)) place
    ∙ ap (leaf s h (leaf_count b.nodes)) (c.as_slice.ensures ∙ (c.in_ok-encoding.ensures {u = tt}).same) in
    let nodes : c.add_leaf_digest.new.self ≡ with_digests b.nodes more =
    (c.in-Ok.ensures {u = tt}).ok ∙ ap (λ d. with_digests b.nodes (d ∷ [])) digest in
    subst (λ (ns : Unsealed g.row.H-Digest.Denot). IsSoundUnsealedItems s h spelling (record { nodes = ns; bagging = b.bagging; kept = kept; items = c.push.new.self })) (sym nodes)
    (subst (λ (xs : List g.row.Item.Denot). IsSoundUnsealedItems s h spelling (record { nodes = with_digests b.nodes more; bagging = b.bagging; kept = kept; items = xs })) (sym (c.in_ok-push.ensures {u = tt}).ok)
    (sound_with s h spelling b c.args.item c.self.invariant))
