use Rattle.std.proofs.Common.{◌≡◌, inl, inr, sym, subst, ap, ◌∙◌, arith}
use Rattle.std.proofs.lemmas.Bool.{cases_lt}
use Rattle.tree_core.specs.Tree.{Tree}
use Rattle.merkle_compact.specs.Frontier.{HasNoPins}
use Rattle.merkle_compact.proofs.FrontierLemmas.{is_frontier, pruned_no_pins}
use Rattle.merkle_compact.proofs.merkle.Merkle.prune_to_frontier.Goals as goal

pub returns-clause-frontier : goal.returns-clause-frontier
returns-clause-frontier g c =
    let s = g.F.Family.shape in
    let old = c.self.inside.mem in
    let new = c.prune_all.new.self in
    elim (cases_lt old.boundary old.leaves) [
      | inl lt ↦
          let to = c.prune_all.ensures.above lt in
          is_frontier s new c.leaves-after.ensures.sound (pruned_no_pins s old.leaves old new to) (to.boundary ∙ sym to.leaves)
      | inr ge ↦
          let ends : old.boundary ≡ old.leaves = omega (arith, c.leaves-before.ensures.sound.within, ge) in
          let same = c.prune_all.ensures.below ends in
          is_frontier s new c.leaves-after.ensures.sound (subst (λ (t : Tree g.row.D.Denot). HasNoPins s t) (sym same) c.self.invariant) (ap (λ (t : Tree g.row.D.Denot). t.boundary) same ∙ ends ∙ sym (ap (λ (t : Tree g.row.D.Denot). t.leaves) same))
    ]
