use Rattle.std.proofs.Common.{◌≡◌, ℕ, ◌+◌, ◌-◌, ◌++◌, List, Some, length, sym, ◌∙◌, ap, subst, arith, length-append}
use Rattle.std.proofs.lemmas.List.{length-map}
use Rattle.std.specs.Prelude.{slice_get}
use Rattle.tree_shape.specs.Shape.{made}
use Rattle.tree_core.specs.Pruned.{made_from, nodes_from, peaks_at, Continues}
use Rattle.tree_core.specs.Hashed.{AreHashed}
use Rattle.tree_core.specs.Links.{ChainSegment}
use Rattle.tree_core.specs.Batches.{Sealed, Unsealed, IsUnsealedOf, IsSealedOf, sealed_node}
use Rattle.tree_core.proofs.LinkLemmas.{linked_push_map, batch_push_map, continues, ends_with, peaks_longer, linked_drop_at, batch_drop}
use Rattle.tree_core.proofs.ChainLemmas.{chained_seal}
use Rattle.tree_core.proofs.Later.{length-split}
use Rattle.tree_core.proofs.HashedLemmas.{last_hashed}
use Rattle.tree_core.proofs.OverlayLemmas.{own_node}
use Rattle.tree_core.proofs.unsealed.UnmerkleizedBatch.merkleize.Goals as goal

pub seal-requires : goal.seal-requires
seal-requires g c =
    let s = g.F.Family.shape in
    let own = c.in_ok-own.ensures.ok ∙ c.new.ensures in
    let few = c.self.invariant.few in
    let kept = linked_drop_at s c.self.inside.first _ _ c.self.inside.base.leaves (c.len.result - c.args.reached) c.first_of-first.result c.keep_from.ensures (rw c.deref.ensures.value at c.first_of-first.ensures) c.self.invariant.linked in
    let longer = ap length c.in_ok-push_own.ensures ∙ length-append c.keep_from.new.segments.items _ in
    record {
      sound = record {
        few = omega (arith, few, c.len-later.ensures, c.self.inside.digests.ok.0);
        some = (let l = length-map c.push_own.new.segments.items (λ r. r.value) in omega (arith, l, longer));
        linked = linked_push_map s _ c.first_of-first.result c.self.inside.base.leaves c.len-later.result c.keep_from.new.segments.items c.push_own.new.segments.items c.in_ok-own.own c.in_ok-push_own.ensures kept
            (ap (λ (l : ChainSegment g.row.D.Denot). l.leaves) own) (ap (λ (l : ChainSegment g.row.D.Denot). l.later) own)
            (ap (λ (l : ChainSegment g.row.D.Denot). length l.nodes) own ∙ c.in_ok-nodes.ensures.counted ∙ ap (λ n. length (made_from s c.self.inside.base.leaves n)) (ap length c.deref-2.ensures.value ∙ sym c.self.inside.digests.ok.0 ∙ sym c.len-later.ensures));
        chained = chained_seal s _ c.self.inside.segments.items c.keep_from.new.segments.items c.push_own.new.segments.items (c.len.result - c.args.reached) c.self.inside.base.leaves c.self.inside.base.peaks.items c.in_ok-own.own
            c.self.invariant.chained c.self.invariant.marked c.keep_from.ensures c.in_ok-push_own.ensures (ap (λ (l : ChainSegment g.row.D.Denot). l.leaves) own) (ap (λ (l : ChainSegment g.row.D.Denot). l.peaks) own);
      };
    }

pub returns-clause-batch : goal.returns-clause-batch
returns-clause-batch g c all un =
    let s = g.F.Family.shape in
    let h = g.H.Hasher.hash in
    let own = c.in_ok-own.ensures.ok ∙ c.new.ensures in
    let more = c.self.inside.digests.items in
    let inside = subst (λ (b : Unsealed g.row.D.Denot). IsUnsealedOf s h all b) (sym c.self.view_is) un in
    let end : c.self.inside.base.leaves ≡ length all = ends_with s h all c.self.inside.first _ c.self.inside.base.leaves c.self.invariant.linked inside.batch.linked in
    let kept = batch_drop s h all c.self.inside.boundary.value.leaves c.self.inside.boundary.value.peaks.items c.self.inside.first c.self.inside.base.leaves (c.len.result - c.args.reached) _ _ c.first_of-first.result end
    c.keep_from.ensures (rw c.deref.ensures.value at c.first_of-first.ensures) inside.batch in
    let before : c.self.inside.base.peaks.items ≡ peaks_at s h (all ++ c.self.inside.digests.items) c.self.inside.base.leaves = inside.base ∙ peaks_longer s h all more c.self.inside.base.leaves g.met.F.Family.lawful (omega (arith, end)) in
    let goes : Continues (all ++ c.self.inside.digests.items) c.self.inside.base.leaves c.self.inside.digests.items = rw end (continues all more) in
    let nodes : c.in_ok-nodes.nodes.items ≡ nodes_from s h (all ++ c.self.inside.digests.items) c.self.inside.base.leaves (length c.self.inside.digests.items) =
    (rw c.deref-2.ensures.value at c.in_ok-nodes.ensures.nodes) (all ++ more) before goes in
    let sealed = batch_push_map s h all more _ c.self.inside.boundary.value.leaves c.self.inside.boundary.value.peaks.items c.first_of-first.result c.keep_from.new.segments.items c.push_own.new.segments.items c.in_ok-own.own
    g.met.F.Family.lawful c.in_ok-push_own.ensures kept (ap (λ (l : ChainSegment g.row.D.Denot). l.leaves) own ∙ end) (ap (λ (l : ChainSegment g.row.D.Denot). l.peaks) own ∙ inside.base ∙ ap (peaks_at s h all) end)
    (ap (λ (l : ChainSegment g.row.D.Denot). l.later) own ∙ c.len-later.ensures ∙ c.self.inside.digests.ok.0)
    (ap (λ (l : ChainSegment g.row.D.Denot). l.nodes) own ∙ nodes ∙ ap (λ b. nodes_from s h (all ++ c.self.inside.digests.items) b (length c.self.inside.digests.items)) end) in
    subst (λ (b : Unsealed g.row.D.Denot). IsSealedOf s h (all ++ b.digests) c.seal.result) c.self.view_is (subst (λ (z : Sealed g.row.D.Denot). IsSealedOf s h (all ++ c.self.inside.digests.items) z) (sym c.seal.ensures) sealed)

pub returns-clause-leaves : goal.returns-clause-leaves
returns-clause-leaves g c i d is =
    let s = g.F.Family.shape in
    let own = c.in_ok-own.ensures.ok ∙ c.new.ensures in
    let n = c.self.inside.base.leaves in
    let k = length (made_from s n i) in
    let digests : c.self.inside.digests.items ≡ c.args.self.digests = ap (λ (b : Unsealed g.row.D.Denot). b.digests) c.self.view_is in
    let base : n ≡ c.args.self.base = ap (λ (b : Unsealed g.row.D.Denot). b.base) c.self.view_is in
    let kept = linked_drop_at s c.self.inside.first _ _ n (c.len.result - c.args.reached) c.first_of-first.result c.keep_from.ensures (rw c.deref.ensures.value at c.first_of-first.ensures) c.self.invariant.linked in
    let there = c.in_ok-nodes.ensures.leaves i d (ap (λ (l : List _). slice_get l i) (c.deref-2.ensures.value ∙ digests) ∙ is) in
    let here = ap (λ (l : ChainSegment g.row.D.Denot). slice_get l.nodes k) own ∙ there in
    let stands = own_node s _ c.first_of-first.result n k c.keep_from.new.segments.items c.push_own.new.segments.items c.in_ok-own.own d c.in_ok-push_own.ensures kept here in
    let place : length (made s n) + k ≡ length (made s (c.args.self.base + i)) = sym (length-split s n i) ∙ ap (λ (m : ℕ). length (made s (m + i))) base in
    subst (λ (p : ℕ). sealed_node s c.seal.result p ≡ Some d) place
    (subst (λ (z : Sealed g.row.D.Denot). sealed_node s z (length (made s n) + k) ≡ Some d) (sym c.seal.ensures) stands)

pub returns-clause-hashed : goal.returns-clause-hashed
returns-clause-hashed g c =
    let s = g.F.Family.shape in
    let h = g.H.Hasher.hash in
    let own = c.in_ok-own.ensures.ok ∙ c.new.ensures in
    let base = c.self.inside.base in
    let later = ap length c.deref-2.ensures.value ∙ sym c.self.inside.digests.ok.0 ∙ sym c.len-later.ensures in
    let made = subst (λ (j : ℕ). AreHashed s h base.leaves j base.peaks.items c.in_ok-nodes.nodes.items) later c.in_ok-nodes.ensures.hashed in
    let hashed = subst (λ (l : ChainSegment g.row.D.Denot). AreHashed s h l.leaves l.later l.peaks l.nodes) (sym own) made in
    subst (λ (z : Sealed g.row.D.Denot). (g : ChainSegment _) → slice_get z.links (length z.links - 1) ≡ Some g → AreHashed s h g.leaves g.later g.peaks g.nodes) (sym c.seal.ensures)
    (λ g at. last_hashed s h _ c.keep_from.new.segments.items c.push_own.new.segments.items c.in_ok-own.own g c.in_ok-push_own.ensures hashed at)
