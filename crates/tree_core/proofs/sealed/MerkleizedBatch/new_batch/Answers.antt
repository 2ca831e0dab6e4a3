use Rattle.std.proofs.Common.{◌-◌, List, length, sym, ◌∙◌, ap, subst, arith}
use Rattle.tree_core.specs.Links.{ChainSegment, StandsBehind}
use Rattle.tree_core.specs.Pruned.{peaks_at}
use Rattle.tree_core.specs.Batches.{Sealed, Unsealed, IsSealedOf, IsUnsealedOf}
use Rattle.tree_core.proofs.LinkLemmas.{link_of, batch_like}
use Rattle.tree_core.proofs.ChainLemmas.{behind_last}
use Rattle.tree_core.proofs.sealed.MerkleizedBatch.new_batch.Goals as goal

pub returns-clause-batch : goal.returns-clause-batch
returns-clause-batch g c h all of =
    let s = g.F.Family.shape in
    let own = link_of s h all c.args.self.now.first c.args.self.now.links _ c.own.result.now of.linked c.own.ensures.last in
    let inside = subst (λ (b : Sealed g.row.D.Denot). IsSealedOf s h all b) (sym c.self.view_is) of in
    subst (λ (b : Unsealed g.row.D.Denot). IsUnsealedOf s h all b) (sym c.begin.ensures) (record {
      batch = rw c.in_ok-boundary.ensures.cases (batch_like s h all _ _ c.self.inside.first _ _ (rw c.deref.ensures.value at c.in_ok-segments.ensures) inside);
      base = c.in_ok-base.ensures.peaks h all own.peaks own.nodes ∙ ap (peaks_at s h all) (sym c.in_ok-base.ensures.leaves);
    })

pub begin-requires-clause-marked : goal.begin-requires-clause-marked
begin-requires-clause-marked g c =
    let s = g.F.Family.shape in
    let b = c.args.self.now in
    let some = c.own.ensures.sound.some in
    let links = (rw c.deref.ensures.value at c.in_ok-segments.ensures) ∙ ap (λ (z : Sealed g.row.D.Denot). z.links) c.self.view_is in
    subst (λ (gs : List (ChainSegment g.row.D.Denot)). StandsBehind s gs c.in_ok-base.base.leaves c.in_ok-base.base.peaks.items) (sym links)
    (behind_last s b.links (length b.links - 1) c.in_ok-base.base.leaves c.own.result.now c.in_ok-base.base.peaks.items c.own.ensures.last (omega (arith, some)) c.in_ok-base.ensures.mark)
