use Rattle.std.proofs.Common.{◌≡◌, ℕ, ◌+◌, reverse, refl, sym, ap, subst, ◌∙◌}
use Rattle.std.specs.Prelude.{IsSome}
use Rattle.tree_shape.specs.Kept.{PeakOf}
use Rattle.tree_shape.specs.Root.{root_over}
use Rattle.tree_core.specs.Pruned.{held_at}
use Rattle.tree_core.specs.Reading.{ArePeaks}
use Rattle.tree_core.specs.Links.{ChainSegment}
use Rattle.tree_core.specs.Batches.{IsSoundSegment}
use Rattle.tree_core.proofs.TreeLemmas.{link_tells, link_told, root_is}
use Rattle.tree_core.proofs.MarkLemmas.{mark_there, mark_peaks}
use Rattle.tree_core.proofs.segment.Segment.root.Goals as goal

pub root_from-requires-clause-there : goal.root_from-requires-clause-there
root_from-requires-clause-there g c x k peak =
    let s = g.F.Family.shape in
    subst (λ (l : ChainSegment g.row.D.Denot). IsSome (held_at s l.leaves l.peaks l.nodes x k)) c.self.view_is (link_tells s _ g.met.F.Family.lawful g.met.F.Family.keeps c.self.invariant x k peak)

pub returns-clause-root : goal.returns-clause-root
returns-clause-root g c all count ep en =
    let s = g.F.Family.shape in
    let n : c.self.inside.before.leaves + c.self.inside.later ≡ c.args.self.now.leaves + c.args.self.now.later = ap (λ (l : ChainSegment g.row.D.Denot). l.leaves + l.later) c.self.view_is in
    let sound : IsSoundSegment s c.args.self.now = subst (λ (l : ChainSegment g.row.D.Denot). IsSoundSegment s l) c.self.view_is c.self.invariant in
    root_is s g.H.Hasher.hash all (c.self.inside.before.leaves + c.self.inside.later) c.args.inactive (λ x k. held_at s c.args.self.now.leaves c.args.self.now.peaks c.args.self.now.nodes x k) c.args.hasher.now c.root_from.result (n ∙ count)
    (λ x k peak. link_told s g.H.Hasher.hash all c.args.self.now g.met.F.Family.lawful g.met.F.Family.keeps sound ep en x k (subst (λ (m : ℕ). PeakOf s m x k) n peak)) c.root_from.ensures

pub returns-clause-marked : goal.returns-clause-marked
returns-clause-marked g c =
    let s = g.F.Family.shape in
    let l = c.args.self.now in
    let told = held_at s l.leaves l.peaks l.nodes in
    let n : c.self.inside.before.leaves + c.self.inside.later ≡ l.leaves + l.later = ap (λ (m : ChainSegment g.row.D.Denot). m.leaves + m.later) c.self.view_is in
    let sound : IsSoundSegment s l = subst (λ (m : ChainSegment g.row.D.Denot). IsSoundSegment s m) c.self.view_is c.self.invariant in
    let mark = mark_there told (l.leaves + l.later) (s.heights (l.leaves + l.later)) (link_tells s l g.met.F.Family.lawful g.met.F.Family.keeps sound) in
    let peaks : ArePeaks s (c.self.inside.before.leaves + c.self.inside.later) told (reverse mark.0) = subst (λ (m : ℕ). ArePeaks s m told (reverse mark.0)) (sym n) (mark_peaks s (l.leaves + l.later) told mark.0 mark.1) in
    (mark.0, (refl, mark.1), c.root_from.ensures (reverse mark.0) peaks ∙ ap (λ m. root_over g.H.Hasher.hash m (reverse mark.0) c.args.inactive c.args.hasher.now) n)
