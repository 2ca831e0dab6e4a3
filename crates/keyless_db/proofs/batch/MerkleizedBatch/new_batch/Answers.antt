use Rattle.std.proofs.Common.{sym, ◌∙◌, ap, subst}
use Rattle.auth_journal.specs.Batched.{IsSealedOfItems}
use Rattle.chain_core.specs.Reached.{item_at}
use Rattle.keyless_db.specs.Batches.{MerkleizedView}
use Rattle.keyless_db.proofs.ApplyLemmas.{one_item}
use Rattle.keyless_db.proofs.batch.MerkleizedBatch.new_batch.Goals as goal

pub returns-clause-list : goal.returns-clause-list
returns-clause-list g c p at list of =
    let same = c.parent.view_is ∙ one_item (item_at c.args.pool.now c.args.id) c.item-parent.result.now p c.item-parent.ensures at in
    let sealed = subst (λ (x : MerkleizedView g.row.F.Denot g.row.D.Denot g.row.O.Denot). IsSealedOfItems g.F.Family.shape g.H.Hasher.hash g.O.Spelled.spelling list x.tree) (sym same) of.tree in
    record {
      base = c.copied-base.ensures ∙ ap (λ (x : MerkleizedView g.row.F.Denot g.row.D.Denot g.row.O.Denot). x.bounds.tip) same ∙ of.batch.bounds.tip;
      tree = c.in-Ok.ensures.batch list sealed;
    }
