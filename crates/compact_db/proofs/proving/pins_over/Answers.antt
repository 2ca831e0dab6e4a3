use Rattle.std.proofs.Common.{◌≡◌, None, sym, subst, ◌∙◌}
use Rattle.tree_shape.specs.Pins.{pins}
use Rattle.tree_store.specs.Stores.{IsFirstAbsent}
use Rattle.compact_db.specs.Proving.{node_over}
use Rattle.compact_db.proofs.ProvingLemmas.{read_all, first_absent}
use Rattle.compact_db.proofs.proving.pins_over.Goals as goal

pub returns-clause-nodes : goal.returns-clause-nodes
returns-clause-nodes g c =
    let told = node_over g.F.Family.shape c.args.batch.now c.args.mem.now in
    read_all told _ _ _ _ c.loop-position.invariant.read c.in-None.ensures.steps.0 c.loop-position.invariant.rest

pub returns-in-None-node_over-clause-unread : goal.returns-in-None-node_over-clause-unread
returns-in-None-node_over-clause-unread g c =
    let told = node_over g.F.Family.shape c.args.batch.now c.args.mem.now in
    let place = c.as_u64-place.ensures in
    let none : told c.as_u64-place.result ≡ None = sym c.node_over.ensures ∙ c.in-None-node_over.is in
    subst (λ p. IsFirstAbsent told (pins g.F.Family.shape c.args.leaves) p) (sym (c.new.ensures ∙ place))
    (first_absent told _ _ _ _ _ _ c.loop-position.invariant.read c.in-Some.ensures.steps c.loop-position.invariant.rest (subst (λ p. told p ≡ None) place none))
