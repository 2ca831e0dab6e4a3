use Rattle.std.proofs.Common.{◌≡◌, ℕ, map, ap, subst, ◌∙◌}
use Rattle.std.specs.Prelude.{IsSome}
use Rattle.tree_shape.specs.Shape.{peaks_down}
use Rattle.tree_core.specs.Tree.{Tree, IsSound, node_at}
use Rattle.tree_core.proofs.TreeLemmas.{tree_tells}
use Rattle.tree_core.proofs.MarkLemmas.{mark_of_list}
use Rattle.tree_core.proofs.mem.Mem.mark.Goals as goal

pub mark_of-requires-clause-there : goal.mark_of-requires-clause-there
mark_of-requires-clause-there g c x k peak =
    let s = g.F.Family.shape in
    subst (λ (t : Tree g.row.D.Denot). IsSome (node_at t (s.position x k))) c.self.view_is (tree_tells s _ g.met.F.Family.lawful g.met.F.Family.keeps c.self.invariant.sound x k peak)

pub returns-clause-mark : goal.returns-clause-mark
returns-clause-mark g c =
    let s = g.F.Family.shape in
    let n : c.self.inside.leaves ≡ c.args.self.now.leaves = ap (λ (t : Tree g.row.D.Denot). t.leaves) c.self.view_is in
    (c.in_ok-mark.ensures.leaves ∙ n, c.in_ok-mark.ensures.peaks ∙ ap (λ m. map (λ (q : ℕ × ℕ). node_at c.args.self.now (s.position q.0 q.1)) (peaks_down m (s.heights m))) n)

pub returns-clause-peaks : goal.returns-clause-peaks
returns-clause-peaks g c h all of =
    let s = g.F.Family.shape in
    let sound : IsSound s c.args.self.now = subst (λ (t : Tree g.row.D.Denot). IsSound s t) c.self.view_is c.self.invariant.sound in
    mark_of_list s h all c.args.self.now _ _ g.met.F.Family.lawful g.met.F.Family.keeps sound of (returns-clause-mark g c)
