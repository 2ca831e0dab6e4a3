use Rattle.std.proofs.Common.{inl, inr, sym, ◌∙◌, ap, subst, arith}
use Rattle.std.specs.Prelude.{slice_get}
use Rattle.tree_shape.proofs.NeededLemmas.{made_le}
use Rattle.merkle_full.specs.Pinning.{IsPinAt}
use Rattle.merkle_full.proofs.PeakLemmas.{pin_below}
use Rattle.merkle_full.proofs.RepinLemmas.{pin_node, repinned_exact}
use Rattle.merkle_full.proofs.RecallLemmas.{repinned_node}
use Rattle.merkle_full.proofs.repin.repinned.Goals as goal

pub add_pinned_nodes-requires : goal.add_pinned_nodes-requires
add_pinned_nodes-requires g c p d is =
    let s = g.F.Family.shape in
    let at = (c.in_ok-pinned.ensures {u = tt}).among p d is in
    let below = pin_below s c.args.boundary at.index p g.met.F.Family.lawful (ap (λ l. slice_get l at.index) (sym c.requires.positions) ∙ at.position) in
    omega (arith, below, made_le s c.args.boundary c.args.mem.leaves c.requires.low)

pub returns-clause-exact : goal.returns-clause-exact
returns-clause-exact g c p =
    let put = (c.in_ok-add_pinned_nodes.ensures {u = tt}).ok in
    repinned_exact g.F.Family.shape c.args.boundary c.args.mem c.add_pinned_nodes.new.self c.rest.new.self _ g.met.F.Family.lawful g.met.F.Family.keeps c.requires.sound put c.rest.ensures.rested
    (λ i q is. (c.in_ok-pinned.ensures {u = tt}).all i q (ap (λ l. slice_get l i) c.requires.positions ∙ is)) p

pub returns-clause-tree : goal.returns-clause-tree
returns-clause-tree g c h all of is =
    let s = g.F.Family.shape in
    let put = c.in_ok-add_pinned_nodes.ensures {u = tt} in
    let count = of.count in
    c.rest.ensures.tree h all (put.tree h all of (λ p d got.
    let at = (c.in_ok-pinned.ensures {u = tt}).among p d got in
    pin_node s h all c.args.digests.now c.args.boundary p d g.met.F.Family.lawful (let low = c.requires.low in omega (arith, low, count)) is (subst (λ l. IsPinAt l c.args.digests.now p d) c.requires.positions at)))

pub returns-clause-nodes : goal.returns-clause-nodes
returns-clause-nodes g c p d is =
    let put = (c.in_ok-add_pinned_nodes.ensures {u = tt}).ok in
    elim (repinned_node g.F.Family.shape c.args.boundary c.args.mem c.add_pinned_nodes.new.self c.rest.new.self _ p d put c.rest.ensures.rested is) [
      | inl here ↦ inl here
      | inr got ↦ inr ((c.in_ok-pinned.ensures {u = tt}).among p d got)
    ]
