use Rattle.std.proofs.Common.{◌≡◌, ◌≤◌, [], None, length, sym, ◌∙◌, ap, subst}
use Rattle.tree_shape.specs.Shape.{inactive}
use Rattle.tree_core.specs.Batches.{BeginsAt}
use Rattle.tree_core.specs.Tree.{Tree}
use Rattle.log_model.proofs.OperationLemmas.{inactive-within}
use Rattle.keyless_db.proofs.BeginLemmas.{first_root}
use Rattle.keyless_db.proofs.beginning.initial_root.Goals as goal

pub root-requires : goal.root-requires
root-requires g c =
    let s = g.F.Family.shape in
    let n = c.in-Ok-merkleize.sealed.leaves in
    subst (λ k. k ≤ length (s.heights n))
    (sym (c.inactive_peaks-inactive.ensures ∙ ap (λ m. inactive s m c.new-2.result) c.leaves.ensures.leaves)) (inactive-within s n c.new-2.result)

pub returns-clause-root : goal.returns-clause-root
returns-clause-root g c =
    let s = g.F.Family.shape in
    let h = g.H.Hasher.hash in
    let commit = g.O.KeylessOperation.committed None 0 in
    let empty = c.in-Ok-new.ensures.tree h in
    let none : c.in-Ok-new.tree.leaves ≡ 0 = ap (λ (t : Tree g.row.H-Digest.Denot). t.leaves) c.in-Ok-new.ensures.empty in
    let begins = subst (λ n. BeginsAt n c.in-Ok-new_batch.batch) none c.in-Ok-new_batch.ensures.begins in
    first_root s h c.in-Ok-new_batch.batch begins c.as_slice.result.now c.add.new.self c.in-Ok-add.ensures.ok
    g.O.Logged.meaning commit (g.met.O.KeylessOperation.floored None 0)
    (c.as_slice.ensures ∙ c.in-Ok.ensures.spelled ∙ ap g.O.Spelled.spelling c.commit.ensures ∙ sym (g.met.O.Logged.spelled commit))
    (c.in-Ok-new_batch.ensures.batch h [] empty) c.in-Ok-merkleize.sealed c.in-Ok-merkleize.ensures.sealed c.in-Ok-merkleize.ensures.batch
    c.leaves.result c.inactive_peaks-inactive.result c.in-Ok-root.root _ c.leaves.ensures.leaves
    (c.inactive_peaks-inactive.ensures ∙ ap (λ f. inactive s c.leaves.result f) c.new-2.ensures) c.new-hasher.ensures c.in-Ok-root.ensures.root
