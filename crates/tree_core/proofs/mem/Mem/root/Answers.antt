use Rattle.std.proofs.Common.{◌≡◌, ℕ, Option, reverse, sym, ap, subst, ◌∙◌}
use Rattle.std.specs.Prelude.{IsSome}
use Rattle.tree_shape.specs.Kept.{PeakOf}
use Rattle.tree_shape.specs.Root.{root_over}
use Rattle.tree_core.specs.Tree.{Tree, IsSound, node_at}
use Rattle.tree_core.specs.Reading.{ArePeaks}
use Rattle.tree_core.proofs.TreeLemmas.{tree_tells, tree_told, root_is}
use Rattle.tree_core.proofs.MarkLemmas.{mark_peaks}
use Rattle.tree_core.proofs.mem.Mem.root.Goals as goal

pub root_from-requires-clause-there : goal.root_from-requires-clause-there
root_from-requires-clause-there g c x k peak =
    let s = g.F.Family.shape in
    subst (λ (t : Tree g.row.D.Denot). IsSome (node_at t (s.position x k))) c.self.view_is (tree_tells s _ g.met.F.Family.lawful g.met.F.Family.keeps c.self.invariant.sound x k peak)

pub returns-clause-root : goal.returns-clause-root
returns-clause-root g c all of =
    let s = g.F.Family.shape in
    let n : c.self.inside.leaves ≡ c.args.self.now.leaves = ap (λ (t : Tree g.row.D.Denot). t.leaves) c.self.view_is in
    let sound : IsSound s c.args.self.now = subst (λ (t : Tree g.row.D.Denot). IsSound s t) c.self.view_is c.self.invariant.sound in
    root_is s g.H.Hasher.hash all c.self.inside.leaves c.args.inactive_peaks (λ x k. node_at c.args.self.now (s.position x k)) c.args.hasher.now c.root_from.result (n ∙ of.count)
    (λ x k peak. tree_told s g.H.Hasher.hash all c.args.self.now g.met.F.Family.lawful g.met.F.Family.keeps sound of x k (subst (λ (m : ℕ). PeakOf s m x k) n peak)) c.root_from.ensures

pub returns-clause-marked : goal.returns-clause-marked
returns-clause-marked g c ps mark =
    let s = g.F.Family.shape in
    let t = c.args.self.now in
    let told : ℕ → ℕ → Option g.row.D.Denot = λ x k. node_at t (s.position x k) in
    let n : c.self.inside.leaves ≡ t.leaves = ap (λ (u : Tree g.row.D.Denot). u.leaves) c.self.view_is in
    let peaks : ArePeaks s c.self.inside.leaves told (reverse ps) = subst (λ (m : ℕ). ArePeaks s m told (reverse ps)) (sym n) (mark_peaks s t.leaves told ps mark.1) in
    c.root_from.ensures (reverse ps) peaks ∙ ap (λ m. root_over g.H.Hasher.hash m (reverse ps) c.args.inactive_peaks c.args.hasher.now) n
