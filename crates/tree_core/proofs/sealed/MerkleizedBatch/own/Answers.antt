use Rattle.std.proofs.Common.{◌≡◌, suc, ◌+◌, ◌-◌, ◌<◌, length, refl, ◌∙◌, ap, arith}
use Rattle.std.proofs.lemmas.Option.{slice_get_read}
use Rattle.tree_core.specs.Links.{ChainSegment}
use Rattle.tree_core.specs.Batches.{Sealed}
use Rattle.tree_core.proofs.LinkLemmas.{last_link_map, some_map}
use Rattle.tree_core.proofs.sealed.MerkleizedBatch.own.Goals as goal

pub returns-clause-ends : goal.returns-clause-ends
returns-clause-ends g c =
    let s = g.F.Family.shape in
    let some : 0 < length c.self.inside.segments.items = some_map _ c.self.inside.segments.items c.self.invariant.some in
    let i : suc (c.len.result - 1) ≡ length c.self.inside.segments.items = omega (arith, c.len.ensures, c.self.inside.segments.ok.0) in
    let read = slice_get_read c.self.inside.segments.items (length c.self.inside.segments.items) (c.len.result - 1) c.index.result.now refl (omega (arith, i)) c.index.ensures in
    let last = last_link_map s _ c.self.inside.first c.self.inside.segments.items c.self.inside.leaves (c.len.result - 1) c.index.result.now c.self.invariant.linked read i in
    ap (λ (l : ChainSegment g.row.D.Denot). l.leaves + l.later) c.deref.ensures ∙ last.ends ∙ ap (λ (b : Sealed g.row.D.Denot). b.leaves) c.self.view_is
