use Rattle.std.proofs.Common.{◌≡◌, length, sym, ◌∙◌, ap, subst}
use Rattle.tree_core.specs.Pruned.{made_from, peaks_at}
use Rattle.tree_core.specs.Applied.{IsMarkOf}
use Rattle.tree_core.proofs.ChainLemmas.{behind_empty}
use Rattle.tree_core.specs.Links.{ChainSegment}
use Rattle.tree_core.specs.Tree.{Tree}
use Rattle.tree_core.specs.Batches.{Sealed, IsSealedOf}
use Rattle.tree_core.proofs.LinkLemmas.{one_batch, none_made, one_link, batch_like}
use Rattle.tree_core.proofs.mem.Mem.to_batch.Goals as goal

pub new-requires-2-clause-counted : goal.new-requires-2-clause-counted
new-requires-2-clause-counted g c = ap length c.new-nodes.ensures.items ∙ none_made g.F.Family.shape c.in_ok-mark.mark.leaves

pub returns-clause-batch : goal.returns-clause-batch
returns-clause-batch g c h all of =
    let s = g.F.Family.shape in
    let n : c.self.inside.leaves ≡ c.args.self.now.leaves = ap (λ (t : Tree g.row.D.Denot). t.leaves) c.self.view_is in
    let own = c.in_ok-own.ensures.ok ∙ c.new-2.ensures in
    subst (λ (z : Sealed g.row.D.Denot). IsSealedOf s h all z) (sym c.seal.ensures) (rw c.in_ok-boundary.ensures.ok (batch_like s h all _ _ c.self.inside.leaves _ _ (one_link _ c.push_own.new.segments.items c.new-segments.result.items c.in_ok-own.own c.in_ok-push_own.ensures c.new-segments.ensures.items) (one_batch s h all c.self.inside.leaves c.in_ok-copied.field-0.leaves c.in_ok-copied.field-0.peaks.items c.in_ok-own.own.value
    (ap (λ (l : ChainSegment g.row.D.Denot). l.leaves) own ∙ c.in_ok-mark.ensures.leaves ∙ sym n)
    (ap (λ (l : ChainSegment g.row.D.Denot). l.peaks) own ∙ c.in_ok-mark.ensures.peaks h all of ∙ ap (peaks_at s h all) (sym n))
    (ap (λ (l : ChainSegment g.row.D.Denot). l.later) own) (ap (λ (l : ChainSegment g.row.D.Denot). l.nodes) own ∙ c.new-nodes.ensures.items) (n ∙ of.count) (c.in_ok-copied.ensures.leaves ∙ c.in_ok-mark.ensures.leaves ∙ sym n)
    (c.in_ok-copied.ensures.peaks ∙ c.in_ok-mark.ensures.peaks h all of ∙ ap (peaks_at s h all) (sym n)))))

pub returns-clause-behind : goal.returns-clause-behind
returns-clause-behind g c =
    let s = g.F.Family.shape in
    let t = c.args.self.now in
    let n : c.self.inside.leaves ≡ t.leaves = ap (λ (u : Tree g.row.D.Denot). u.leaves) c.self.view_is in
    let own = c.in_ok-own.ensures.ok ∙ c.new-2.ensures in
    let nodes = ap (λ (l : ChainSegment g.row.D.Denot). l.nodes) own ∙ c.new-nodes.ensures.items in
    let later = ap (λ (l : ChainSegment g.row.D.Denot). l.later) own in
    let one = ap (λ (b : Sealed g.row.D.Denot). b.links) c.seal.ensures ∙ one_link _ c.push_own.new.segments.items c.new-segments.result.items c.in_ok-own.own c.in_ok-push_own.ensures c.new-segments.ensures.items in
    behind_empty s t c.seal.result c.in_ok-own.own.value g.met.F.Family.lawful g.met.F.Family.keeps one nodes
    (ap length nodes ∙ none_made s c.in_ok-own.own.value.leaves ∙ ap (λ j. length (made_from s c.in_ok-own.own.value.leaves j)) (sym later))
    (ap (λ (b : Sealed g.row.D.Denot). b.leaves) c.seal.ensures ∙ n)
    (subst (λ (l : ChainSegment g.row.D.Denot). IsMarkOf s t l.leaves l.peaks) (sym own) c.in_ok-mark.ensures.mark)
