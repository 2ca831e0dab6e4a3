use Rattle.std.proofs.Common.{rules, ◌≡◌, ◌+◌, ◌-◌, ◌^◌, ◌<◌, [], length, sym, ◌∙◌, ap, subst, arith}
use Rattle.std.specs.Prelude.{slice_get}
use Rattle.std.proofs.lemmas.List.{get_or_default}
use Rattle.tree_proof.proofs.InputLemmas.{node_input_same}
use Rattle.tree_evidence.proofs.FoldLemmas.{if_ok}
use Rattle.tree_evidence.proofs.NodeLemmas.{leaf_is, node_is, na, nb, leaves_clash, halves_clash, left_clash, right_clash}
use Rattle.tree_evidence.proofs.nodes.+find_below.Goals.{then-not-is_same-via-then-not-is_same, then-not-is_same-via-else-not-is_same+then-not-is_same-2}
use Rattle.tree_evidence.proofs.nodes.+find_below.Goals as goal

pub returns-then-height-eq0 : goal.returns-then-height-eq0
returns-then-height-eq0 g t c =
    let s = g.F.Family.shape in
    let h = g.H.Hasher.hash in
    let a = c.args.one.now.elements.now in
    let b = c.args.other.now.elements.now in
    let x = c.args.start in
    let wide = ap (λ k. 2 ^ k) c.if-height-eq0.true in
    let here : c.args.place ≡ x = omega (arith, wide, c.requires.over) in
    let la : x < length a = omega (arith, wide, c.requires.within) in
    let lb : x < length b = omega (arith, la, c.requires.counted) in
    leaves_clash s h a b x c.args.height _ _ c.if-height-eq0.true la lb (subst (λ i. slice_get a i ≡ slice_get b i → ⊥) here c.requires.differ) c.requires.same
    (c.in_ok-first.ensures ∙ leaf_is s h _ _ _ _ c.position-pos.ensures (c.as_slice.ensures ∙ get_or_default a x _ [] la))
    (c.in_ok-second.ensures ∙ leaf_is s h _ _ _ _ c.position-pos.ensures (c.as_slice-then-height-eq0.ensures ∙ get_or_default b x _ [] lb))

pub returns-then-not-is_same : goal.returns-then-not-is_same
returns-then-not-is_same g t c =
    let s = g.F.Family.shape in
    let h = g.H.Hasher.hash in
    let a = c.args.one.now.elements.now in
    let b = c.args.other.now.elements.now in
    let x = c.args.start in
    let k = c.args.height in
    let l = c.both_at-left.result in
    let r = c.both_at-right.result in
    let sized = ap length (g.met.H.Hasher.same_bytes l.one) ∙ c.is_same.ensures.sized ∙ sym (ap length (g.met.H.Hasher.same_bytes l.other)) in
    let right_one = c.both_at-right.ensures.one ∙ ap (λ w. na s h a b (x + w) (k - 1)) c.half_width.ensures.half in
    let right_other = c.both_at-right.ensures.other ∙ ap (λ w. nb s h a b (x + w) (k - 1)) c.half_width.ensures.half in
    halves_clash s h a b x k _ _ (omega (arith, c.if-height-eq0.false)) c.requires.same
    (c.in_ok-first-2.ensures ∙ node_is s h _ _ _ _ _ _ c.position-pos.ensures c.both_at-left.ensures.one right_one)
    (c.in_ok-second-2.ensures ∙ node_is s h _ _ _ _ _ _ c.position-pos.ensures c.both_at-left.ensures.other right_other)
    (λ e.
    let t = node_input_same h (λ a b q. g.met.H.Digest.Digest.exact a b (sym (g.met.H.Hasher.same_bytes a) ∙ q ∙ g.met.H.Hasher.same_bytes b)) c.position-pos.result l.one r.one l.other r.other sized (sym c.in_ok-first-2.ensures ∙ e ∙ c.in_ok-second-2.ensures) in
    elim c.then-not-is_same.branch [
      | then-not-is_same-via-then-not-is_same w ↦ search (w.if-not-is_same, c.is_same.ensures.same.1 t.0, rules)
      | then-not-is_same-via-else-not-is_same+then-not-is_same-2 w ↦ search (w.if-not-is_same-2, w.is_same-else-not-is_same.ensures.same.1 t.1, rules)
    ])

pub returns-then-place-middle : goal.returns-then-place-middle
returns-then-place-middle g t c =
    let s = g.F.Family.shape in
    let h = g.H.Hasher.hash in
    if_ok _ _ c.find_below.result c.find_below.ensures
    (λ r f. left_clash s h c.args.one.now.elements.now c.args.other.now.elements.now c.args.start c.args.height r.0 r.1 (omega (arith, c.if-height-eq0.false)) f)

pub returns-else-place-middle : goal.returns-else-place-middle
returns-else-place-middle g t c =
    let s = g.F.Family.shape in
    let h = g.H.Hasher.hash in
    if_ok _ _ c.find_below-else-place-middle.result c.find_below-else-place-middle.ensures
    (λ r f. right_clash s h c.args.one.now.elements.now c.args.other.now.elements.now c.args.start c.args.height r.0 r.1 (omega (arith, c.if-height-eq0.false)) (rw c.half_width.ensures.half at f))
