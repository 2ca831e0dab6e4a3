use Rattle.std.proofs.Common.{◌≡◌, ℕ, ◌+◌, arith, List, ◌++◌, length, map, drop, sym, ◌∙◌, ap, subst}
use Rattle.std.proofs.lemmas.List.{length-map, map-append}
use Rattle.tree_shape.specs.Slow.{leaf_digests}
use Rattle.std.proofs.Math.Seq.{drop-append_seam}
use Rattle.tree_core.specs.Applied.{IsLonger}
use Rattle.tree_core.specs.Batches.{IsSealedOf}
use Rattle.merkle_full.specs.Lists.{AreDigests, IsFullOf}
use Rattle.auth_journal.specs.Joined.{leaves_of}
use Rattle.auth_journal.proofs.LeafLemmas.{leaves_rest, all_digests}
use Rattle.auth_journal.proofs.leaves.with_leaves.Goals as goal

pub returns-in-Ok-clause-longer : goal.returns-in-Ok-clause-longer
returns-in-Ok-clause-longer g c =
    let encoded = ap length (c.deref.ensures.value ∙ (c.in_ok-encodings.ensures {u = tt}).same) ∙ length-map c.args.items.now g.T.Spelled.spelling in
    let count : c.in_ok-batch.batch.leaves ≡ c.args.merkle.tree.leaves + length c.args.items.now = omega (arith, (c.in_ok-batch.ensures {u = tt}).leaves, encoded) in
    subst (λ n. IsLonger g.F.Family.shape n c.args.merkle.tree c.in-Ok.longer.tree) count (c.in-Ok.ensures {u = tt}).longer

pub returns-in-Ok-clause-full : goal.returns-in-Ok-clause-full
returns-in-Ok-clause-full g c list image full =
    let s = g.F.Family.shape in
    let h = g.H.Hasher.hash in
    let digest = g.H.Digest.Spelled.spelling in
    let admits = g.H.Digest.Read.admits tt in
    let spelling = g.T.Spelled.spelling in
    let items : List g.row.T.Denot = c.args.items.now in
    let elements : map spelling list ++ c.deref.result.now ≡ map spelling (list ++ items) =
    ap (λ (r : List (List ℕ)). map spelling list ++ r) (c.deref.ensures.value ∙ (c.in_ok-encodings.ensures {u = tt}).same) ∙ sym (map-append spelling list items) in
    let sealed : IsSealedOf s h (leaves_of s h spelling (list ++ items)) c.in_ok-batch.batch =
    subst (λ (es : List (List ℕ)). IsSealedOf s h (leaf_digests s h es) c.in_ok-batch.batch) elements ((c.in_ok-batch.ensures {u = tt}).batch (map spelling list) full.tree) in
    let digests = subst (AreDigests s h admits) (sym (leaves_rest s h spelling list (list ++ items))) (all_digests s h admits (map spelling (list ++ drop (length list) (list ++ items))) (λ m. g.met.H.Digest.Digest.allowed (h.digest m) (ap length (sym (g.met.H.Hasher.same_bytes (h.digest m))) ∙ g.met.H.Hasher.one_size m))) in
    let grown = (c.in-Ok.ensures {u = tt}).full h (leaves_of s h spelling list) (leaves_of s h spelling (list ++ items)) image full sealed digests in
    subst (λ (all : List g.row.H-Digest.Denot). IsFullOf s h digest admits all c.in-Ok.longer image)
    (leaves_rest s h spelling list (list ++ items) ∙ ap (λ (rest : List g.row.T.Denot). leaves_of s h spelling (list ++ rest)) (drop-append_seam list items)) grown
