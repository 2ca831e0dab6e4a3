use Rattle.std.proofs.Common.{sym, ◌∙◌, ap}
use Rattle.std.specs.Option.{IfSome}
use Rattle.chain_core.specs.Slots.{slot_at}
use Rattle.chain_core.specs.PoolMap.{IsKeptAt}
use Rattle.chain_core.proofs.SlotLemmas.{slot_at-slots_of, lent-kept, lent-held, lent-after}
use Rattle.chain_core.proofs.pool.Pool.find.Goals as goal

pub returns : goal.returns
returns g c =
    let p = c.self.inside in
    let found = rw c.id.view_is at c.get.ensures.value in
    let kept : IfSome c.get.result (λ b. IsKeptAt p.drawn c.args.id b.now) =
    lent-kept p.batches p.drawn c.args.id c.self.invariant c.get.result found in
    record {
      value = found ∙ sym (slot_at-slots_of p.batches p.drawn c.args.id c.self.invariant) ∙ ap (λ slots. slot_at slots c.args.id) c.self.view_is;
      held = lent-held p.drawn c.args.id c.get.result kept;
      after = lent-after p.drawn c.args.id c.get.result kept;
    }
