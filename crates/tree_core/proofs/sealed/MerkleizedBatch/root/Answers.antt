use Rattle.std.proofs.Common.{ℕ, ◌-◌, length, reverse, ap, subst, arith, ◌∙◌}
use Rattle.tree_shape.specs.Root.{root_over}
use Rattle.tree_core.specs.Links.{IsMarkBehind}
use Rattle.tree_core.proofs.LinkLemmas.{link_of, ends_with}
use Rattle.tree_core.proofs.ChainLemmas.{behind_last}
use Rattle.tree_core.proofs.sealed.MerkleizedBatch.root.Goals as goal

pub root-requires : goal.root-requires
root-requires g c = rw c.own.ensures.ends c.requires

pub returns-clause-root : goal.returns-clause-root
returns-clause-root g c all of =
    let s = g.F.Family.shape in
    let own = link_of s g.H.Hasher.hash all c.args.self.now.first c.args.self.now.links _ c.own.result.now of.linked c.own.ensures.last in
    let end = ends_with s g.H.Hasher.hash all c.args.self.now.first c.args.self.now.links c.args.self.now.leaves c.own.ensures.sound.linked of.linked in
    c.root.ensures.root all (c.own.ensures.ends ∙ end) own.peaks own.nodes

pub returns-clause-marked : goal.returns-clause-marked
returns-clause-marked g c =
    let s = g.F.Family.shape in
    let b = c.args.self.now in
    let own = c.own.result.now in
    let some = c.own.ensures.sound.some in
    let mark = c.root.ensures.marked in
    let behind : IsMarkBehind s own b.leaves mark.0 = subst (λ (m : ℕ). IsMarkBehind s own m mark.0) c.own.ensures.ends mark.1 in (
      mark.0,
      behind_last s b.links (length b.links - 1) b.leaves own mark.0 c.own.ensures.last (omega (arith, some)) behind,
      mark.2 ∙ ap (λ m. root_over g.H.Hasher.hash m (reverse mark.0) c.args.inactive_peaks c.args.hasher.now) c.own.ensures.ends,
    )
