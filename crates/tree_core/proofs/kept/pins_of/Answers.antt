use Rattle.std.proofs.Common.{rules, ◌≡◌, ℕ, ◌<◌, [], ◌∷◌, ◌++◌, List, length, get_or, ◌∙◌, ap, subst, add-one, arith}
use Rattle.tree_shape.proofs.NodeLemmas.{read-get_or}
use Rattle.tree_shape.proofs.PeakLemmas.{length-peaks}
use Rattle.tree_core.proofs.PinnedLemmas.{first_at, height_at, none_pinned, pinned_step, all_pinned, peak_is}
use Rattle.tree_core.proofs.kept.pins_of.Goals as goal

pub loop-j-init : goal.loop-j-init
loop-j-init g c = none_pinned g.F.Family.shape c.args.leaves c.new-nodes.result.items c.args.pinned.now c.new-nodes.ensures.items

pub bounds-pinned-j : goal.bounds-pinned-j
bounds-pinned-j g c =
    let counted = ap length c.in_ok-peaks.ensures.nodes ∙ length-peaks g.F.Family.shape c.args.leaves in
    omega (arith, c.loop-j-test.true, c.len-j-end.ensures, counted, c.requires.counted)

pub offset_bounds-pinned-j : goal.offset_bounds-pinned-j
offset_bounds-pinned-j g c =
    let counted = ap length c.in_ok-peaks.ensures.nodes ∙ length-peaks g.F.Family.shape c.args.leaves in
    omega (arith, c.loop-j-test.true, c.len-j-end.ensures, counted, c.requires.counted)

pub returns-clause-pins : goal.returns-clause-pins
returns-clause-pins g c =
    let s = g.F.Family.shape in
    let n = c.args.leaves in
    let counted = ap length c.in_ok-peaks.ensures.nodes ∙ length-peaks s n in
    rw c.reserve.ensures.items (all_pinned s n c.loop-j.j c.loop-j.nodes.items c.args.pinned.now c.requires.counted
    (omega (arith, c.loop-j-test.false, c.len-j-end.ensures, counted)) c.loop-j.invariant)

pub returns-clause-others : goal.returns-clause-others
returns-clause-others g c = rw c.reserve.ensures.items c.loop-j.invariant.others

pub returns-clause-before : goal.returns-clause-before
returns-clause-before g c = rw c.reserve.ensures.items c.loop-j.invariant.before

pub loop-j-preserved : goal.loop-j-preserved
loop-j-preserved g c =
    let s = g.F.Family.shape in
    let n = c.args.leaves in
    let j = c.loop-j.j in
    let peak = c.index.result.now in
    let nodes = c.in_ok-peaks.ensures.nodes in
    let counted = ap length nodes ∙ length-peaks s n in
    let lt : j < length (s.heights n) = omega (arith, c.loop-j-test.true, c.len-j-end.ensures, counted) in
    let is = peak_is s n j peak lt (subst (λ (ps : List (ℕ × ℕ)). peak ≡ get_or ps j peak) nodes c.index.ensures) in
    let place : c.position.result ≡ s.position (first_at s n j) (height_at s n j) =
    c.position.ensures ∙ ap (λ (p : ℕ × ℕ). s.position p.0 p.1) is in
    let pushed : c.push.new.self.items ≡ c.loop-j.nodes.items ++ ((s.position (first_at s n j) (height_at s n j), c.index-pinned-j.result) ∷ []) =
    subst (λ (p : ℕ). c.push.new.self.items ≡ c.loop-j.nodes.items ++ ((p, c.index-pinned-j.result) ∷ [])) place (search rules) in
    rw add-one (pinned_step s n j c.loop-j.nodes.items c.push.new.self.items c.args.pinned.now c.index-pinned-j.result g.met.F.Family.lawful lt
    (λ d. read-get_or c.args.pinned.now j c.index-pinned-j.result d (omega (arith, lt, c.requires.counted)) c.index-pinned-j.is) c.loop-j.invariant pushed)
