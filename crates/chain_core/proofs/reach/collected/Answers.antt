use Rattle.std.proofs.Common.{◌≡◌, get_or, Some, sym, ◌∙◌, ap, subst}
use Rattle.chain_core.specs.declared.bounds.Bounds.{Bounds}
use Rattle.chain_core.specs.Reached.{item_at}
use Rattle.chain_core.proofs.ReachedLemmas.{tips_step, oldest_step}
use Rattle.chain_core.proofs.reach.collected.Goals as goal

pub loop-id-preserved : goal.loop-id-preserved
loop-id-preserved g c =
    let pool = c.args.pool.now in
    let ids = c.args.ids.now in
    let k = c.loop-id.id-index in
    let d = c.id-item.result in
    let e = c.item.result.now in
    let here : item_at pool (get_or ids k d) ≡ Some e = subst (λ i. item_at pool i ≡ Some e) c.id-item.is c.item.ensures in
    let tip = c.copied.ensures ∙ ap (λ (b : Bounds g.row.F.Denot g.row.D.Denot). b.tip) c.bounds-bounds.ensures in
    let base = c.copied-in-loop-id.ensures ∙ ap (λ (b : Bounds g.row.F.Denot g.row.D.Denot). b.base) c.bounds-bounds.ensures in
    record {
      tips = c.in_ok-push.ensures.items ∙ rw (c.loop-id.invariant.tips, tip) (sym (tips_step g.T.Chained.bounds_of pool ids k d e c.loop-id-test.true here));
      oldest = ap Some base ∙ sym (oldest_step g.T.Chained.bounds_of pool ids k d e c.loop-id-test.true here);
    }
