use Rattle.std.proofs.Common.{◌≡◌, length, [], ◌∷◌, subst, ◌∙◌, ap, sym}
use Rattle.std.specs.Prelude.{OnOk}
use Rattle.tree_shape.specs.Hashing.{leaf_input}
use Rattle.tree_shape.specs.Shape.{made}
use Rattle.tree_shape.specs.Slow.{leaf}
use Rattle.tree_core.specs.Batches.{leaf_count, with_digests}
use Rattle.tree_shape.proofs.NeededLemmas.{leaf_position}
use Rattle.tree_core.proofs.unsealed.UnmerkleizedBatch.add.Goals as goal

pub returns-clause-ok : goal.returns-clause-ok
returns-clause-ok g c =
    let s = g.F.Family.shape in
    let place : c.new-place.result ≡ s.position (leaf_count c.args.self.now) 0 =
    c.new-place.ensures ∙ c.size.ensures ∙ ap (λ n. length (made s n)) (c.as_u64.ensures ∙ c.leaves-leaves.ensures.leaves) ∙ sym (leaf_position s g.met.F.Family.lawful (leaf_count c.args.self.now)) in
    let is : c.leaf_digest.result ≡ leaf s g.H.Hasher.hash (leaf_count c.args.self.now) c.args.element.now = c.leaf_digest.ensures ∙ ap (λ p. g.H.Hasher.hash.digest (leaf_input p c.args.element.now)) place in
    subst (λ d. OnOk c.add_leaf_digest.result (c.add_leaf_digest.new.self ≡ with_digests c.args.self.now (d ∷ []))) is c.add_leaf_digest.ensures.ok
