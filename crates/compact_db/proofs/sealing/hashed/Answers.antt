use Rattle.std.proofs.Common.{◌≡◌, ◌++◌, length, refl, ◌∙◌, ap, subst, arith}
use Rattle.tree_shape.specs.Root.{root}
use Rattle.tree_core.specs.Batches.{Unsealed, IsSealedOf, IsSealedFrom, with_digests}
use Rattle.log_model.specs.Operations.{leaves_from}
use Rattle.log_model.proofs.OperationLemmas.{root_of-parts}
use Rattle.compact_db.proofs.PinLemmas.{inactive_fits}
use Rattle.compact_db.proofs.SealLemmas.{leaves_are, batch_of, whole_count}
use Rattle.compact_db.proofs.sealing.hashed.Goals as goal

pub root-requires : goal.root-requires
root-requires g c =
    inactive_fits g.F.Family.shape c.in_ok-sealed.sealed.leaves _ _ _ c.leaves-2.ensures.leaves c.inactive_peaks-inactive.ensures

pub returns-clause-leaves : goal.returns-clause-leaves
returns-clause-leaves g c =
    leaves_are g.F.Family.shape g.H.Hasher.hash g.O.Logged.meaning c.args.tree c.add_leaf_digests.new.self c.in-Ok.leaves.items
    c.as_u64-first.result c.args.operations.now c.requires.none
    (c.in-Ok-add_leaf_digests.ensures.ok ∙ ap (with_digests c.args.tree) c.deref.ensures.value)
    (c.as_u64-first.ensures ∙ c.leaves.ensures.leaves) c.in-Ok.ensures.leaves
    c.in_ok-sealed.sealed.leaves c.in_ok-sealed.ensures.sealed.leaves

pub returns-clause-tree : goal.returns-clause-tree
returns-clause-tree g c list base of =
    batch_of g.F.Family.shape g.H.Hasher.hash g.O.Logged.meaning c.args.tree c.add_leaf_digests.new.self c.in-Ok.leaves.items
    c.as_u64-first.result c.args.operations.now c.requires.none
    (c.in-Ok-add_leaf_digests.ensures.ok ∙ ap (with_digests c.args.tree) c.deref.ensures.value)
    (c.as_u64-first.ensures ∙ c.leaves.ensures.leaves) c.in-Ok.ensures.leaves
    list c.in_ok-sealed.sealed base of c.in_ok-sealed.ensures.batch

pub returns-clause-root : goal.returns-clause-root
returns-clause-root g c list base of floor =
    let s = g.F.Family.shape in
    let h = g.H.Hasher.hash in
    let m = g.O.Logged.meaning in
    let sealed : IsSealedOf s h (leaves_from s h m 0 (list ++ c.args.operations.now)) c.in_ok-sealed.sealed =
    batch_of s h m c.args.tree c.add_leaf_digests.new.self c.in-Ok.leaves.items
    c.as_u64-first.result c.args.operations.now c.requires.none
    (c.in-Ok-add_leaf_digests.ensures.ok ∙ ap (with_digests c.args.tree) c.deref.ensures.value)
    (c.as_u64-first.ensures ∙ c.leaves.ensures.leaves) c.in-Ok.ensures.leaves
    list c.in_ok-sealed.sealed base of c.in_ok-sealed.ensures.batch in
    let count = whole_count s h m c.args.tree c.add_leaf_digests.new.self c.in-Ok.leaves.items
    c.as_u64-first.result c.args.operations.now c.requires.none
    (c.in-Ok-add_leaf_digests.ensures.ok ∙ ap (with_digests c.args.tree) c.deref.ensures.value)
    (c.as_u64-first.ensures ∙ c.leaves.ensures.leaves) c.in-Ok.ensures.leaves
    list c.in_ok-sealed.sealed.leaves c.in_ok-sealed.ensures.sealed.leaves base in
    c.in_ok-root.ensures.root (leaves_from s h m 0 (list ++ c.args.operations.now)) sealed
    ∙ ap (λ b. root s h (leaves_from s h m 0 (list ++ c.args.operations.now)) c.inactive_peaks-inactive.result b) c.new-hasher.ensures
    ∙ root_of-parts s h m (list ++ c.args.operations.now) (leaves_from s h m 0 (list ++ c.args.operations.now)) c.leaves-2.result c.args.floor c.inactive_peaks-inactive.result
    refl (c.leaves-2.ensures.leaves ∙ count) floor c.inactive_peaks-inactive.ensures

pub returns-clause-segments : goal.returns-clause-segments
returns-clause-segments g c =
    let s = g.F.Family.shape in
    let h = g.H.Hasher.hash in
    let m = g.O.Logged.meaning in
    let sealed = c.in_ok-sealed.sealed in
    let from : IsSealedFrom (with_digests c.args.tree c.deref.result.now) c.args.reached sealed =
    subst (λ (u : Unsealed _). IsSealedFrom u c.args.reached sealed) c.in-Ok-add_leaf_digests.ensures.ok c.in_ok-sealed.ensures.sealed in
    let none : length c.args.tree.digests ≡ 0 = ap length c.requires.none in
    let first : c.as_u64-first.result ≡ c.args.tree.base = c.as_u64-first.ensures ∙ c.leaves.ensures.leaves ∙ omega (arith, none) in
    let leaves : c.deref.result.now ≡ leaves_from s h m c.args.tree.base c.args.operations.now =
    c.deref.ensures.value ∙ c.in-Ok.ensures.leaves ∙ ap (λ n. leaves_from s h m n c.args.operations.now) first in
    subst (λ ds. IsSealedFrom (with_digests c.args.tree ds) c.args.reached sealed) leaves from
