use Rattle.std.proofs.Common.{◌≡◌, ℕ, List, ◌++◌, length, sym, ◌∙◌, ap, subst, arith, length-append}
use Rattle.tree_shape.specs.Slow.{leaf_digests}
use Rattle.tree_core.specs.Batches.{Unsealed, IsUnsealedOf, IsSealedOf, leaf_count}
use Rattle.auth_journal.specs.Batched.{leaves_from}
use Rattle.auth_journal.proofs.BatchLemmas.{added}
use Rattle.auth_journal.proofs.LeafLemmas.{length-leaves, length-leaves_from, digests_more}
use Rattle.auth_journal.proofs.leaves.sealed_leaves.Goals as goal

pub returns-in-Ok-merkleize-clause-leaves : goal.returns-in-Ok-merkleize-clause-leaves
returns-in-Ok-merkleize-clause-leaves g c =
    let s = g.F.Family.shape in
    let h = g.H.Hasher.hash in
    let elements = c.args.encodings.now in
    let b = c.in-Ok.batch in
    let begun = (c.in-Ok.ensures {u = tt}).begins in
    let ds = leaves_from s h (leaf_count b) elements in
    let put = ap leaf_count (c.in_ok-add_leaves.ensures {u = tt}).leaves in
    let sealed = (c.in-Ok-merkleize.ensures {u = tt}).sealed.leaves in
    omega (arith, sealed, put, length-append b.digests ds, ap length begun.digests, begun.base, length-leaves_from s h (leaf_count b) elements)

pub returns-in-Ok-merkleize-clause-batch : goal.returns-in-Ok-merkleize-clause-batch
returns-in-Ok-merkleize-clause-batch g c elements of =
    let s = g.F.Family.shape in
    let h = g.H.Hasher.hash in
    let new = c.args.encodings.now in
    let all = leaf_digests s h elements in
    let b = c.in-Ok.batch in
    let begun = (c.in-Ok.ensures {u = tt}).begins in
    let ds = leaves_from s h (leaf_count b) new in
    let put = (c.in_ok-add_leaves.ensures {u = tt}).leaves in
    let start = (c.in-Ok.ensures {u = tt}).batch h all of in
    let unsealed : IsUnsealedOf s h all c.add_leaves.new.batch = subst (λ (u : Unsealed g.row.H-Digest.Denot). IsUnsealedOf s h all u) (sym put) (added s h all b ds start) in
    let none = ap length begun.digests in
    let at : leaf_count b ≡ length elements = omega (arith, begun.base, none, of.count, length-leaves s h elements) in
    let more : c.add_leaves.new.batch.digests ≡ leaves_from s h (length elements) new =
    ap (λ (u : Unsealed g.row.H-Digest.Denot). u.digests) put ∙ ap (λ (r : List g.row.H-Digest.Denot). r ++ ds) begun.digests ∙ ap (λ (n : ℕ). leaves_from s h n new) at in
    subst (λ (ls : List g.row.H-Digest.Denot). IsSealedOf s h ls c.in-Ok-merkleize.sealed) (ap (λ (r : List g.row.H-Digest.Denot). all ++ r) more ∙ sym (digests_more s h elements new))
    ((c.in-Ok-merkleize.ensures {u = tt}).batch all unsealed)
