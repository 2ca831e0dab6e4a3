use Rattle.std.proofs.Common.{◌<◌, [], ◌∷◌, ◌++◌, ◌+◌, length, map, drop, refl, sym, ◌∙◌, ap, subst, append_assoc, arith}
use Rattle.std.proofs.lemmas.List.{drop_all, append-nil}
use Rattle.tree_shape.specs.Slow.{node_of}
use Rattle.tree_shape.proofs.PeakLemmas.{EndBy, end-at, next_in, peaks-end}
use Rattle.tree_shape.proofs.slow.slow_peaks.Goals as goal

pub loop-i-init : goal.loop-i-init
loop-i-init g c = rw c.new-digests.ensures.items refl

pub slow_node-requires-clause-within : goal.slow_node-requires-clause-within
slow_node-requires-clause-within g c =
    let s = g.F.Family.shape in
    let n = length c.args.leaves.now in
    let peaks = c.in_ok-peaks.peaks.items in
    let lt : c.loop-i.i < length peaks = omega (arith, c.loop-i-test.true, c.len-i-end.ensures) in
    let ends = subst (EndBy n) (sym c.in_ok-peaks.ensures.nodes) (peaks-end s n (g.met.F.Family.lawful.peaks n)) in
    end-at n c.loop-i.i peaks c.index.result.now ends lt c.index.ensures

pub loop-i-preserved : goal.loop-i-preserved
loop-i-preserved g c =
    let f = node_of g.F.Family.shape g.H.Hasher.hash c.args.leaves.now in
    let peaks = c.in_ok-peaks.peaks.items in
    let next = c.index.result.now in
    let lt : c.loop-i.i < length peaks = omega (arith, c.loop-i-test.true, c.len-i-end.ensures) in
    let are = next_in peaks c.loop-i.i next lt c.index.ensures in
    let later = map f (drop (c.loop-i.i + 1) peaks) in
    let one = (c.in_ok-push.ensures {u = tt}).items ∙ ap (λ d. c.loop-i.digests.items ++ (d ∷ [])) c.slow_node.ensures in
    ap (λ ds. ds ++ later) one ∙ append_assoc c.loop-i.digests.items (f next ∷ []) later
    ∙ ap (λ ps. c.loop-i.digests.items ++ map f ps) (sym are) ∙ c.loop-i.invariant

pub returns : goal.returns
returns g c =
    let f = node_of g.F.Family.shape g.H.Hasher.hash c.args.leaves.now in
    let peaks = c.in_ok-peaks.peaks.items in
    let none = drop_all c.loop-i.i peaks (omega (arith, c.loop-i-test.false, c.len-i-end.ensures)) in
    sym (ap (λ ps. c.loop-i.digests.items ++ map f ps) none ∙ append-nil c.loop-i.digests.items) ∙ c.loop-i.invariant ∙ ap (map f) c.in_ok-peaks.ensures.nodes
