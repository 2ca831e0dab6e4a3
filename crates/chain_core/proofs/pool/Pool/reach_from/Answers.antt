use Rattle.std.proofs.Common.{sym, subst, refl, []}
use Rattle.chain_core.specs.Slots.{slot_at, IsReach}
use Rattle.chain_core.proofs.ReachLemmas.{reach-end, reach-more}
use Rattle.chain_core.proofs.pool.Pool.reach_from.Goals as goal

pub returns-in_default-find-clause-reach : goal.returns-in_default-find-clause-reach
returns-in_default-find-clause-reach g c =
    reach-end (slot_at c.args.self.now) c.args.link c.loop-next.next c.loop-next.reached.items c.loop-next.invariant
    (subst (λ n. IsReach (slot_at c.args.self.now) n []) (sym c.in-Some.is) (sym c.in_default-find.ensures.value))

pub loop-next-preserved : goal.loop-next-preserved
loop-next-preserved g c =
    λ rest h.
    rw c.in_ok-push.ensures.items
    (reach-more (slot_at c.args.self.now) c.args.link c.loop-next.next c.loop-next.reached.items c.loop-next.invariant c.in-Some.id
    c.in-Some-find.batch.now c.in-Some.is (sym c.in-Some-find.ensures.value) rest h)

pub returns-clause-reach : goal.returns-clause-reach
returns-clause-reach g c =
    reach-end (slot_at c.args.self.now) c.args.link c.loop-next.next c.loop-next.reached.items c.loop-next.invariant
    (subst (λ n. IsReach (slot_at c.args.self.now) n []) (sym c.in_default.is) refl)
