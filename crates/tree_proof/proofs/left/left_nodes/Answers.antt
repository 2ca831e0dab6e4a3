use Rattle.std.proofs.Common.{◌≡◌, ◌<◌, [], length, drop, refl, ◌∙◌, ap, arith}
use Rattle.std.proofs.lemmas.List.{drop_all}
use Rattle.tree_shape.proofs.PeakLemmas.{next_in}
use Rattle.tree_proof.specs.Cover.{meets, cover_over}
use Rattle.tree_proof.specs.Pinned.{left_of}
use Rattle.tree_proof.proofs.LeftLemmas.{of-cover, gone_next, gone_all, left-cover, left-small}
use Rattle.tree_proof.proofs.left.left_nodes.Goals as goal

pub loop-i-init : goal.loop-i-init
loop-i-init g c = rw c.new-nodes.ensures.items refl

pub loop-i-preserved : goal.loop-i-preserved
loop-i-preserved g c =
    let peaks = c.in_ok-peaks.peaks.items in
    let i = c.loop-i.i in
    let next = c.index.result.now in
    let within : i < length peaks = omega (arith, c.loop-i-test.true, c.len-i-end.ensures) in
    let are = next_in peaks i next within c.index.ensures in
    gone_next c.args.start peaks _ _ _ _ next.0 next.1 c.loop-i.invariant are (of-cover c.args.start next.0 next.1 _ _ c.in_ok-push_left.ensures)

pub returns-clause-nodes : goal.returns-clause-nodes
returns-clause-nodes g c end some =
    let start = c.args.start in
    let peaks = c.in_ok-peaks.peaks.items in
    let none : drop c.loop-i.i peaks ≡ [] = drop_all c.loop-i.i peaks (omega (arith, c.loop-i-test.false, c.len-i-end.ensures)) in
    gone_all start peaks _ _ c.loop-i.invariant none ∙ left-cover start end some peaks
    ∙ ap (λ ps. left_of start (cover_over (meets start end) ps)) c.in_ok-peaks.ensures.nodes

pub returns-clause-small : goal.returns-clause-small
returns-clause-small g c =
    let peaks = c.in_ok-peaks.peaks.items in
    let none : drop c.loop-i.i peaks ≡ [] = drop_all c.loop-i.i peaks (omega (arith, c.loop-i-test.false, c.len-i-end.ensures)) in
    left-small c.args.start peaks c.loop-i.nodes.items c.requires.0 (gone_all c.args.start peaks _ _ c.loop-i.invariant none)
