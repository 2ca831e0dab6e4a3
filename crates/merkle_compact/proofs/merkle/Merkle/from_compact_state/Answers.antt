use Rattle.std.proofs.Common.{◌≡◌, ◌-◌, ◌∙◌, sym, ap, arith}
use Rattle.tree_core.specs.Pruned.{nodes_from}
use Rattle.merkle_compact.proofs.FrontierLemmas.{is_frontier, built_no_pins, built_leaves, nothing_from}
use Rattle.merkle_compact.proofs.merkle.Merkle.from_compact_state.Goals as goal

pub returns-clause-leaves : goal.returns-clause-leaves
returns-clause-leaves g c = built_leaves _ _ _ _ _ c.in_ok-mem.ensures.built c.new.ensures.items

pub returns-clause-frontier : goal.returns-clause-frontier
returns-clause-frontier g c =
    let built = c.in_ok-mem.ensures.built in
    is_frontier _ c.in_ok-mem.mem c.leaves-sound.ensures.sound (built_no_pins _ _ _ _ _ built) (built.boundary ∙ sym (built_leaves _ _ _ _ _ built c.new.ensures.items))

pub returns-clause-tree : goal.returns-clause-tree
returns-clause-tree g c h all count pins =
    let built = c.in_ok-mem.ensures.built in
    let leaves = built_leaves _ _ _ _ _ built c.new.ensures.items in
    let none : c.in_ok-mem.mem.leaves - c.args.leaves ≡ 0 = omega (arith, leaves) in
    c.in_ok-mem.ensures.tree h all (leaves ∙ count) pins (c.new.ensures.items ∙ sym (ap (nodes_from g.F.Family.shape h all c.args.leaves) none ∙ nothing_from _ h all c.args.leaves))
