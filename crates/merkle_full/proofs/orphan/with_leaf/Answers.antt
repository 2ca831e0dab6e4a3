use Rattle.std.proofs.Common.{◌≡◌, ℕ, ◌+◌, ◌-◌, ◌++◌, ◌∷◌, [], List, Some, drop, length, subst, sym, ◌∙◌, ap, arith}
use Rattle.std.specs.Prelude.{slice_get}
use Rattle.tree_shape.specs.Shape.{made}
use Rattle.tree_core.specs.Batches.{Sealed, Unsealed, IsSoundSealed, IsUnsealedOf, IsSealedFrom, with_digests}
use Rattle.tree_core.specs.Hashed.{AreHashed}
use Rattle.tree_core.specs.Links.{ChainSegment, IsLinked, first_leaves}
use Rattle.tree_core.specs.Pruned.{made_from}
use Rattle.tree_core.specs.Tree.{IsOf, node_at}
use Rattle.tree_core.proofs.HashedLemmas.{has_parents, only_segment}
use Rattle.tree_core.proofs.ChainLemmas.{own_fits, refused_fitting}
use Rattle.merkle_full.proofs.GrownLemmas.{err_same}
use Rattle.merkle_full.proofs.OrphanLemmas.{leaf_joined}
use Rattle.tree_store.specs.declared.error.Error.TheVariants.{Memory}
use Rattle.merkle_full.proofs.orphan.with_leaf.Goals as goal

pub returns-in_err-apply_batch-clause-memory : goal.returns-in_err-apply_batch-clause-memory
returns-in_err-apply_batch-clause-memory g c =
    let s = g.F.Family.shape in
    let e = c.in_err-apply_batch.field-0.0 in
    let b = c.in_ok-batch.batch in
    let from = subst (λ (u : Unsealed _). IsSealedFrom u 0 c.in_ok-sealed.sealed) (c.in_ok-add_leaf_digest.ensures {u = tt}).ok (c.in_ok-sealed.ensures {u = tt}).sealed in
    let fits = own_fits s c.args.mem (with_digests b (c.args.leaf ∷ [])) 0 c.in_ok-sealed.sealed (omega arith) from (c.in_ok-batch.ensures {u = tt}).marked.1 in
    err_same _ e (λ d. d ≡ Memory) c.from_residual-in_err-apply_batch.ensures.1 (refused_fitting s c.args.mem c.in_ok-sealed.sealed 0 e fits c.in_err-apply_batch.ensures.answer)

pub returns-clause-tree : goal.returns-clause-tree
returns-clause-tree g c all tree =
    let s = g.F.Family.shape in
    let h = g.H.Hasher.hash in
    let b = c.in_ok-batch.batch in
    let grown = (c.in_ok-add_leaf_digest.ensures {u = tt}).ok in
    let begun = (c.in_ok-batch.ensures {u = tt}).batch h all tree in
    let more : IsUnsealedOf s h all (with_digests b (c.args.leaf ∷ [])) = record { batch = begun.batch; base = begun.base } in
    let sealed = (c.in_ok-sealed.ensures {u = tt}).batch all (subst (λ (u : Unsealed _). IsUnsealedOf s h all u) (sym grown) more) in
    let made = (c.in_ok-apply_batch.ensures {u = tt}).tree h all (all ++ c.add_leaf_digest.new.self.digests) tree sealed in
    subst (λ (l : List _). IsOf s h l c.apply_batch.new.self) (leaf_joined all b c.add_leaf_digest.new.self c.args.leaf grown (c.in_ok-batch.ensures {u = tt}).begins.digests) made

pub returns-clause-leaf : goal.returns-clause-leaf
returns-clause-leaf g c =
    let s = g.F.Family.shape in
    let n = c.args.mem.leaves in
    let begins = (c.in_ok-batch.ensures {u = tt}).begins in
    let grown = (c.in_ok-add_leaf_digest.ensures {u = tt}).ok in
    let added : c.add_leaf_digest.new.self.digests ≡ c.args.leaf ∷ [] =
    ap (λ (u : Unsealed _). u.digests) grown ∙ ap (λ (l : List _). l ++ (c.args.leaf ∷ [])) begins.digests in
    let base : c.add_leaf_digest.new.self.base + 0 ≡ n = omega (arith, ap (λ (u : Unsealed _). u.base) grown ∙ begins.base) in
    let place : length (made s (c.add_leaf_digest.new.self.base + 0)) ≡ length (made s n) = ap (λ (k : ℕ). length (made s k)) base in
    let sealed = (c.in_ok-sealed.ensures {u = tt}).leaves 0 c.args.leaf (ap (λ (l : List _). slice_get l 0) added) in
    let there = (c.in_ok-apply_batch.ensures {u = tt}).since (length (made s (c.add_leaf_digest.new.self.base + 0))) (omega (arith, place)) ∙ sealed in
    subst (λ (p : ℕ). node_at c.apply_batch.new.self p ≡ Some c.args.leaf) place there

pub returns-clause-parents : goal.returns-clause-parents
returns-clause-parents g c =
    let s = g.F.Family.shape in
    let h = g.H.Hasher.hash in
    let n = c.args.mem.leaves in
    let b = c.in_ok-batch.batch in
    let z = c.in_ok-sealed.sealed in
    let m = c.apply_batch.new.self in
    let batch = c.in_ok-batch.ensures {u = tt} in
    let begins = batch.begins in
    let sealed = c.in_ok-sealed.ensures {u = tt} in
    let did = c.in_ok-apply_batch.ensures {u = tt} in
    let from = subst (λ (u : Unsealed _). IsSealedFrom u 0 z) (c.in_ok-add_leaf_digest.ensures {u = tt}).ok sealed.sealed in
    let own : ChainSegment _ = record { leaves = b.base; peaks = b.base_peaks; later = length (b.digests ++ (c.args.leaf ∷ [])); nodes = from.nodes } in
    let links : z.links ≡ own ∷ [] = from.links ∙ ap (λ (gs : List (ChainSegment _)). drop (length gs - 0) gs ++ (own ∷ [])) begins.links in
    let first : z.first ≡ n = from.first ∙ ap (λ (gs : List (ChainSegment _)). first_leaves (drop (length gs - 0) gs) b.base) begins.links ∙ begins.base in
    let later : length (b.digests ++ (c.args.leaf ∷ [])) ≡ 1 = ap (λ (l : List _). length (l ++ (c.args.leaf ∷ []))) begins.digests in
    let last : slice_get z.links (length z.links - 1) ≡ Some own = ap (λ (gs : List (ChainSegment _)). slice_get gs (length gs - 1)) links in
    let hashed : AreHashed s h n 1 b.base_peaks from.nodes =
    subst (λ (k : ℕ). AreHashed s h k 1 b.base_peaks from.nodes) begins.base (subst (λ (j : ℕ). AreHashed s h b.base j b.base_peaks from.nodes) later (sealed.hashed own last)) in
    let sound = subst (λ (u : Sealed _). IsSoundSealed s u) c.sealed.view_is c.sealed.invariant in
    let linked = subst (λ (gs : List (ChainSegment _)). IsLinked s z.first gs z.leaves) links sound.linked in
    let counted : length from.nodes ≡ length (made_from s n 1) =
    linked.0.counted ∙ ap (λ (k : ℕ). length (made_from s k own.later)) first ∙ ap (λ (j : ℕ). length (made_from s n j)) later in
    let size = length (made s n) in
    has_parents s h (node_at c.args.mem) (node_at m) n b.base_peaks from.nodes counted batch.marked.1.1 did.longer.nodes
    (λ i. did.since (size + i) (omega arith) ∙ only_segment s z n i own first links) hashed
