use Rattle.std.proofs.Common.{◌≡◌, ℕ, List, Err, length, take, subst, sym, ◌∙◌, ap, arith}
use Rattle.std.proofs.lemmas.Option.{same_Some}
use Rattle.journal_base.specs.Items.{items_of}
use Rattle.tree_core.specs.Tree.{IsOf}
use Rattle.tree_shape.specs.Shape.{made}
use Rattle.volume_base.specs.Log.{IsItemAt}
use Rattle.tree_verification.proofs.NodeLemmas.{ok_gives}
use Rattle.merkle_full.specs.Preparing.{IsLogged, NotReached}
use Rattle.merkle_full.proofs.OpeningLemmas.{node_in_log}
use Rattle.merkle_full.proofs.OrphanLemmas.{ok_both, orphan_next, not_reached}
use Rattle.merkle_full.proofs.LiftedLemmas.{made_lifted, memory_lifted}
use Rattle.merkle_full.proofs.RecallLemmas.{ok_any}
use Rattle.merkle_full.proofs.orphan.with_orphan.Goals as goal

pub returns-in-Ok-clause-list : goal.returns-in-Ok-clause-list
returns-in-Ok-clause-list g c = ok_both _ _ _ c.with_leaf.result
    (λ m leaves tree told all durable top pins stands first.
    let s = g.F.Family.shape in
    let h = g.H.Hasher.hash in
    let n = c.args.mem.leaves in
    let place : c.size-position.result ≡ length (made s n) = c.size-position.ensures ∙ ap (λ (k : ℕ). length (made s k)) (c.as_u64-leaves.ensures ∙ c.leaves.ensures.leaves) in
    let here = node_in_log s h g.D.Spelled.spelling all durable top c.size-position.result _ pins c.in-Ok.leaf
    (λ a b same. g.met.D.Digest.exact a b (sym (g.met.D.Digest.spelled a) ∙ same ∙ g.met.D.Digest.spelled b)) stands (c.in-Ok.ensures.item told) in
    let next = orphan_next s h all n c.size-position.result c.in-Ok.leaf place here in
    subst (λ (l : List _). IsOf s h l m) (sym (ap (λ (k : ℕ). take k all) leaves ∙ next)) (tree (take n all) first))
    c.with_leaf.ensures.leaves c.with_leaf.ensures.tree

pub returns-in-Err-clause-refused : goal.returns-in-Err-clause-refused
returns-in-Err-clause-refused g c told within low =
    let s = g.F.Family.shape in
    let n = c.args.mem.leaves in
    let view = g.R.BackingRecovery.view c.args.log.now in
    let leaves : c.as_u64-leaves.result ≡ n = c.as_u64-leaves.ensures ∙ c.leaves.ensures.leaves in
    let place : c.size-position.result ≡ length (made s n) = c.size-position.ensures ∙ ap (λ (k : ℕ). length (made s k)) leaves in
    let items = items_of g.D.Spelled.spelling g.D.Read.admits view (g.V.Volume.state c.args.vol.now) in
    subst (NotReached items s c.args.cap view.end n) (sym c.from.ensures)
    (not_reached items s c.args.cap view.start view.end n c.size-position.result c.in-Err.error place (omega (arith, leaves)) (omega (arith, c.bounds-end.ensures.end)) low
    (λ p is. (c.in-Err.ensures.pruned p (ap Err is)).1 told within)
    (λ p is. (c.in-Err.ensures.out_of_range p (ap Err is)).1 told within)
    (λ p is. let bad = c.in-Err.ensures.corrupt p (ap Err is) in (bad.0, bad.3 told)) c.in-Err.ensures.errors)

pub returns-in-Ok-clause-orphan : goal.returns-in-Ok-clause-orphan
returns-in-Ok-clause-orphan g c =
    let s = g.F.Family.shape in
    let n = c.args.mem.leaves in
    let view = g.R.BackingRecovery.view c.args.log.now in
    let log = (g.V.Volume.state c.args.vol.now).log view.name in
    let place : c.size-position.result ≡ length (made s n) = c.size-position.ensures ∙ ap (λ (k : ℕ). length (made s k)) (c.as_u64-leaves.ensures ∙ c.leaves.ensures.leaves) in
    ok_any c.with_leaf.result _ (λ told has. (
      c.in-Ok.leaf,
      record {
        held = subst (λ (p : ℕ). IsItemAt log p (g.D.Spelled.spelling c.in-Ok.leaf)) place (c.in-Ok.ensures.item told);
        allowed = c.in-Ok.ensures.admitted;
      },
    ))

pub returns-in-Err-clause-errors : goal.returns-in-Err-clause-errors
returns-in-Err-clause-errors g c = made_lifted _ c.in-Err.error c.from.ensures

pub returns-in-Ok-clause-errors : goal.returns-in-Ok-clause-errors
returns-in-Ok-clause-errors g c = memory_lifted c.with_leaf.result c.with_leaf.ensures.memory

pub returns-in-Ok-clause-logged : goal.returns-in-Ok-clause-logged
returns-in-Ok-clause-logged g c =
    let s = g.F.Family.shape in
    let n = c.args.mem.leaves in
    let view = g.R.BackingRecovery.view c.args.log.now in
    let log = (g.V.Volume.state c.args.vol.now).log view.name in
    let items = items_of g.D.Spelled.spelling g.D.Read.admits view (g.V.Volume.state c.args.vol.now) in
    let place : c.size-position.result ≡ length (made s n) = c.size-position.ensures ∙ ap (λ (k : ℕ). length (made s k)) (c.as_u64-leaves.ensures ∙ c.leaves.ensures.leaves) in
    ok_gives _ _ (λ m here told d is. subst (IsLogged items (length (made s n))) (same_Some c.in-Ok.leaf d (sym here ∙ is)) (record {
      held = subst (λ (p : ℕ). IsItemAt log p (g.D.Spelled.spelling c.in-Ok.leaf)) place (c.in-Ok.ensures.item told);
      allowed = c.in-Ok.ensures.admitted;
    })) c.with_leaf.result c.with_leaf.ensures.leaf
