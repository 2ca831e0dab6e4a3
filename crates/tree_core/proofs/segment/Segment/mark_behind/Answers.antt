use Rattle.std.proofs.Common.{◌≡◌, ℕ, ◌+◌, ap, subst, ◌∙◌}
use Rattle.std.specs.Prelude.{IsSome}
use Rattle.tree_shape.specs.Kept.{PeakOf}
use Rattle.tree_shape.specs.Slow.{node}
use Rattle.tree_core.specs.Pruned.{held_at, peaks_at}
use Rattle.tree_core.specs.Links.{ChainSegment}
use Rattle.tree_core.specs.Batches.{IsSoundSegment}
use Rattle.tree_core.proofs.TreeLemmas.{link_tells, link_told}
use Rattle.tree_core.proofs.MarkLemmas.{told_peaks}
use Rattle.tree_core.proofs.segment.Segment.mark_behind.Goals as goal

pub mark_of-requires-clause-there : goal.mark_of-requires-clause-there
mark_of-requires-clause-there g c x k peak =
    let s = g.F.Family.shape in
    subst (λ (l : ChainSegment g.row.D.Denot). IsSome (held_at s l.leaves l.peaks l.nodes x k)) c.self.view_is (link_tells s _ g.met.F.Family.lawful g.met.F.Family.keeps c.self.invariant x k peak)

pub returns-clause-peaks : goal.returns-clause-peaks
returns-clause-peaks g c h all ep en =
    let s = g.F.Family.shape in
    let n : c.self.inside.before.leaves + c.self.inside.later ≡ c.args.self.now.leaves + c.args.self.now.later = ap (λ (l : ChainSegment g.row.D.Denot). l.leaves + l.later) c.self.view_is in
    let sound : IsSoundSegment s c.args.self.now = subst (λ (l : ChainSegment g.row.D.Denot). IsSoundSegment s l) c.self.view_is c.self.invariant in
    let l = c.args.self.now in
    told_peaks (held_at s l.leaves l.peaks l.nodes) (node s h all) (c.self.inside.before.leaves + c.self.inside.later) (s.heights (c.self.inside.before.leaves + c.self.inside.later)) _
    (λ x k peak. link_told s h all l g.met.F.Family.lawful g.met.F.Family.keeps sound ep en x k (subst (λ (m : ℕ). PeakOf s m x k) n peak)) c.in_ok-mark.ensures.peaks
    ∙ ap (peaks_at s h all) n
