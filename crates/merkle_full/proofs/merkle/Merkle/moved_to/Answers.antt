use Rattle.std.proofs.Common.{◌≤◌, ℕ, map, sym, ◌∙◌, ap, subst, arith}
use Rattle.tree_shape.specs.Shape.{peaks}
use Rattle.tree_shape.specs.Slow.{node_of}
use Rattle.tree_core.specs.Tree.{IsOf}
use Rattle.merkle_full.specs.Full.{Full}
use Rattle.merkle_full.proofs.PruneLemmas.{moved_rests, moved_kept}
use Rattle.merkle_full.proofs.merkle.Merkle.moved_to.Goals as goal

pub invariant_of-result : goal.invariant_of-result
invariant_of-result g c =
    let did = c.in_ok-mem.ensures {u = tt} in
    let low = subst (λ (t : Full g.row.D.Denot). c.args.boundary ≤ t.tree.leaves) (sym c.self.view_is) c.requires.low in
    moved_kept g.F.Family.shape c.self.inside.mem.leaves c.new.result _ did.sound did.leaves did.boundary (sym c.new.ensures) (omega (arith, low, c.new.ensures, c.as_u64-leaves.ensures)) did.exact

pub returns-clause-rests : goal.returns-clause-rests
returns-clause-rests g c =
    let did = c.in_ok-mem.ensures {u = tt} in
    moved_rests g.F.Family.shape c.self.inside.mem.leaves c.new.result _ did.leaves did.boundary (sym c.new.ensures) did.exact

pub returns-clause-tree : goal.returns-clause-tree
returns-clause-tree g c h all of is =
    let s = g.F.Family.shape in
    let here = subst (λ (t : Full g.row.D.Denot). IsOf s h all t.tree) (sym c.self.view_is) of in
    (c.in_ok-mem.ensures {u = tt}).tree h all here (is ∙ ap (λ (n : ℕ). map (node_of s h all) (peaks s n)) (sym (c.new.ensures ∙ c.as_u64-leaves.ensures)))
