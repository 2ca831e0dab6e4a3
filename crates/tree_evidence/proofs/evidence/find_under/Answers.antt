use Rattle.std.proofs.Common.{rules, ◌≡◌, length, sym, ◌∙◌, ap, subst, arith}
use Rattle.std.specs.Prelude.{slice_get, IfSome, IfNone}
use Rattle.tree_shape.specs.Slow.{leaf_digests}
use Rattle.tree_shape.proofs.NodeLemmas.{length-peaks}
use Rattle.tree_evidence.proofs.FoldLemmas.{found_some, found_none, if_ok}
use Rattle.tree_evidence.proofs.RootLemmas.{place_within, first_root, second_root, roots_clash, folds_clash, below_clash, same_roots, same_folded, same_count, same_peak}
use Rattle.tree_evidence.proofs.evidence.find_under.Goals as goal

pub root_input_of-requires : goal.root_input_of-requires
root_input_of-requires g c =
    let s = g.F.Family.shape in
    let h = g.H.Hasher.hash in
    let b = c.args.hasher.now in
    let one = c.args.one.now.elements.now in
    let other = c.args.other.now.elements.now in
    let j = c.args.inactive_one in
    let k = c.args.inactive_other in
    let l = ap length (c.deref.ensures.value ∙ c.requires.whole.0.peaks) ∙ length-peaks s h (leaf_digests s h one) (length one) in
    omega (arith, l, c.requires.within.0)

pub root_input_of-requires-2 : goal.root_input_of-requires-2
root_input_of-requires-2 g c =
    let s = g.F.Family.shape in
    let h = g.H.Hasher.hash in
    let b = c.args.hasher.now in
    let one = c.args.one.now.elements.now in
    let other = c.args.other.now.elements.now in
    let j = c.args.inactive_one in
    let k = c.args.inactive_other in
    let l = ap length (c.deref-2.ensures.value ∙ c.requires.whole.1.peaks) ∙ length-peaks s h (leaf_digests s h other) (length other) in
    omega (arith, l, c.requires.within.1)

pub returns-then-not-is_equal : goal.returns-then-not-is_equal
returns-then-not-is_equal g c =
    let s = g.F.Family.shape in
    let h = g.H.Hasher.hash in
    let b = c.args.hasher.now in
    let one = c.args.one.now.elements.now in
    let other = c.args.other.now.elements.now in
    let j = c.args.inactive_one in
    let k = c.args.inactive_other in
    let first = first_root s h b one other j k c.in_ok-first.first c.deref.result.now (c.deref.ensures.value ∙ c.requires.whole.0.peaks) c.in_ok-first.ensures in
    let second = second_root s h b one other j k c.in_ok-second.second c.deref-2.result.now (c.deref-2.ensures.value ∙ c.requires.whole.1.peaks) c.in_ok-second.ensures in
    roots_clash s h b one other j k _ _ first second (λ e. search (c.if-not-is_equal, c.is_equal.ensures.1 e, rules)) c.requires.same

pub find_folded-requires-clause-counted : goal.find_folded-requires-clause-counted
find_folded-requires-clause-counted g c =
    let s = g.F.Family.shape in
    let h = g.H.Hasher.hash in
    let b = c.args.hasher.now in
    let one = c.args.one.now.elements.now in
    let other = c.args.other.now.elements.now in
    let j = c.args.inactive_one in
    let k = c.args.inactive_other in
    let first = first_root s h b one other j k c.in_ok-first.first c.deref.result.now (c.deref.ensures.value ∙ c.requires.whole.0.peaks) c.in_ok-first.ensures in
    let second = second_root s h b one other j k c.in_ok-second.second c.deref-2.result.now (c.deref-2.ensures.value ∙ c.requires.whole.1.peaks) c.in_ok-second.ensures in
    let equal : c.in_ok-first.first ≡ c.in_ok-second.second = search (c.if-not-is_equal.ensures, rules) in
    let ca = g.met.F.Family.few_peaks (length one) c.requires.whole.0.few in
    let cb = g.met.F.Family.few_peaks (length other) c.requires.whole.1.few in
    let r = same_roots s h b one other j k c.requires.whole.0.few c.requires.whole.1.few (omega (arith, ca, c.requires.within.0)) (omega (arith, cb, c.requires.within.1)) (sym first ∙ equal ∙ second) in
    let ones = c.deref-3.ensures.value ∙ c.requires.whole.0.peaks in
    let others = c.deref-4.ensures.value ∙ c.requires.whole.1.peaks in
    ap length ones ∙ same_count s h b one other j k r.leaves ∙ sym (ap length others)

pub find_folded-requires-clause-within : goal.find_folded-requires-clause-within
find_folded-requires-clause-within g c =
    let s = g.F.Family.shape in
    let h = g.H.Hasher.hash in
    let b = c.args.hasher.now in
    let one = c.args.one.now.elements.now in
    let other = c.args.other.now.elements.now in
    let j = c.args.inactive_one in
    let k = c.args.inactive_other in
    let ones = c.deref-3.ensures.value ∙ c.requires.whole.0.peaks in
    let l = ap length ones ∙ length-peaks s h (leaf_digests s h one) (length one) in
    omega (arith, l, c.requires.within.0)

pub find_folded-requires-clause-same : goal.find_folded-requires-clause-same
find_folded-requires-clause-same g c =
    let s = g.F.Family.shape in
    let h = g.H.Hasher.hash in
    let b = c.args.hasher.now in
    let one = c.args.one.now.elements.now in
    let other = c.args.other.now.elements.now in
    let j = c.args.inactive_one in
    let k = c.args.inactive_other in
    let first = first_root s h b one other j k c.in_ok-first.first c.deref.result.now (c.deref.ensures.value ∙ c.requires.whole.0.peaks) c.in_ok-first.ensures in
    let second = second_root s h b one other j k c.in_ok-second.second c.deref-2.result.now (c.deref-2.ensures.value ∙ c.requires.whole.1.peaks) c.in_ok-second.ensures in
    let equal : c.in_ok-first.first ≡ c.in_ok-second.second = search (c.if-not-is_equal.ensures, rules) in
    let ca = g.met.F.Family.few_peaks (length one) c.requires.whole.0.few in
    let cb = g.met.F.Family.few_peaks (length other) c.requires.whole.1.few in
    let r = same_roots s h b one other j k c.requires.whole.0.few c.requires.whole.1.few (omega (arith, ca, c.requires.within.0)) (omega (arith, cb, c.requires.within.1)) (sym first ∙ equal ∙ second) in
    let ones = c.deref-3.ensures.value ∙ c.requires.whole.0.peaks in
    let others = c.deref-4.ensures.value ∙ c.requires.whole.1.peaks in
    same_folded s h b one other j k c.deref-3.result.now c.deref-4.result.now ones others r.inactive r.folded

pub returns-in-Some : goal.returns-in-Some
returns-in-Some g c =
    let s = g.F.Family.shape in
    let h = g.H.Hasher.hash in
    let b = c.args.hasher.now in
    let one = c.args.one.now.elements.now in
    let other = c.args.other.now.elements.now in
    let j = c.args.inactive_one in
    let k = c.args.inactive_other in
    let first = first_root s h b one other j k c.in_ok-first.first c.deref.result.now (c.deref.ensures.value ∙ c.requires.whole.0.peaks) c.in_ok-first.ensures in
    let second = second_root s h b one other j k c.in_ok-second.second c.deref-2.result.now (c.deref-2.ensures.value ∙ c.requires.whole.1.peaks) c.in_ok-second.ensures in
    let equal : c.in_ok-first.first ≡ c.in_ok-second.second = search (c.if-not-is_equal.ensures, rules) in
    let ca = g.met.F.Family.few_peaks (length one) c.requires.whole.0.few in
    let cb = g.met.F.Family.few_peaks (length other) c.requires.whole.1.few in
    let r = same_roots s h b one other j k c.requires.whole.0.few c.requires.whole.1.few (omega (arith, ca, c.requires.within.0)) (omega (arith, cb, c.requires.within.1)) (sym first ∙ equal ∙ second) in
    let ones = c.deref-3.ensures.value ∙ c.requires.whole.0.peaks in
    let others = c.deref-4.ensures.value ∙ c.requires.whole.1.peaks in
    folds_clash s h b one other j k _ _ c.deref-3.result.now c.deref-4.result.now ones others r.inactive (found_some h _ _ _ _ _ c.in-Some.is c.in_ok-clash.ensures)

pub peak_over-start-requires : goal.peak_over-start-requires
peak_over-start-requires g c =
    let s = g.F.Family.shape in
    let h = g.H.Hasher.hash in
    let b = c.args.hasher.now in
    let one = c.args.one.now.elements.now in
    let other = c.args.other.now.elements.now in
    let j = c.args.inactive_one in
    let k = c.args.inactive_other in
    let first = first_root s h b one other j k c.in_ok-first.first c.deref.result.now (c.deref.ensures.value ∙ c.requires.whole.0.peaks) c.in_ok-first.ensures in
    let second = second_root s h b one other j k c.in_ok-second.second c.deref-2.result.now (c.deref-2.ensures.value ∙ c.requires.whole.1.peaks) c.in_ok-second.ensures in
    let equal : c.in_ok-first.first ≡ c.in_ok-second.second = search (c.if-not-is_equal.ensures, rules) in
    let ca = g.met.F.Family.few_peaks (length one) c.requires.whole.0.few in
    let cb = g.met.F.Family.few_peaks (length other) c.requires.whole.1.few in
    let r = same_roots s h b one other j k c.requires.whole.0.few c.requires.whole.1.few (omega (arith, ca, c.requires.within.0)) (omega (arith, cb, c.requires.within.1)) (sym first ∙ equal ∙ second) in
    let differ : slice_get one c.in-Some-difference.place ≡ slice_get other c.in-Some-difference.place → ⊥ = subst (λ o. IfSome o (λ i. slice_get one i ≡ slice_get other i → ⊥)) c.in-Some-difference.is c.requires.place in
    (place_within one other c.in-Some-difference.place r.leaves differ, c.requires.whole.0.few)

pub find_below-requires-clause-counted : goal.find_below-requires-clause-counted
find_below-requires-clause-counted g c =
    let s = g.F.Family.shape in
    let h = g.H.Hasher.hash in
    let b = c.args.hasher.now in
    let one = c.args.one.now.elements.now in
    let other = c.args.other.now.elements.now in
    let j = c.args.inactive_one in
    let k = c.args.inactive_other in
    let first = first_root s h b one other j k c.in_ok-first.first c.deref.result.now (c.deref.ensures.value ∙ c.requires.whole.0.peaks) c.in_ok-first.ensures in
    let second = second_root s h b one other j k c.in_ok-second.second c.deref-2.result.now (c.deref-2.ensures.value ∙ c.requires.whole.1.peaks) c.in_ok-second.ensures in
    let equal : c.in_ok-first.first ≡ c.in_ok-second.second = search (c.if-not-is_equal.ensures, rules) in
    let ca = g.met.F.Family.few_peaks (length one) c.requires.whole.0.few in
    let cb = g.met.F.Family.few_peaks (length other) c.requires.whole.1.few in
    let r = same_roots s h b one other j k c.requires.whole.0.few c.requires.whole.1.few (omega (arith, ca, c.requires.within.0)) (omega (arith, cb, c.requires.within.1)) (sym first ∙ equal ∙ second) in
    r.leaves

pub find_below-requires-clause-same : goal.find_below-requires-clause-same
find_below-requires-clause-same g c =
    let s = g.F.Family.shape in
    let h = g.H.Hasher.hash in
    let b = c.args.hasher.now in
    let one = c.args.one.now.elements.now in
    let other = c.args.other.now.elements.now in
    let j = c.args.inactive_one in
    let k = c.args.inactive_other in
    let first = first_root s h b one other j k c.in_ok-first.first c.deref.result.now (c.deref.ensures.value ∙ c.requires.whole.0.peaks) c.in_ok-first.ensures in
    let second = second_root s h b one other j k c.in_ok-second.second c.deref-2.result.now (c.deref-2.ensures.value ∙ c.requires.whole.1.peaks) c.in_ok-second.ensures in
    let equal : c.in_ok-first.first ≡ c.in_ok-second.second = search (c.if-not-is_equal.ensures, rules) in
    let ca = g.met.F.Family.few_peaks (length one) c.requires.whole.0.few in
    let cb = g.met.F.Family.few_peaks (length other) c.requires.whole.1.few in
    let r = same_roots s h b one other j k c.requires.whole.0.few c.requires.whole.1.few (omega (arith, ca, c.requires.within.0)) (omega (arith, cb, c.requires.within.1)) (sym first ∙ equal ∙ second) in
    let ones = c.deref-3.ensures.value ∙ c.requires.whole.0.peaks in
    let others = c.deref-4.ensures.value ∙ c.requires.whole.1.peaks in
    let peaks = sym ones ∙ found_none h _ _ _ _ c.in_default.is c.in_ok-clash.ensures ∙ others in
    same_peak s h b one other j k c.peak_over-start.result.0 c.peak_over-start.result.1 r.leaves peaks c.peak_over-start.ensures.peak

pub unreachable-requires : goal.unreachable-requires
unreachable-requires g c =
    let s = g.F.Family.shape in
    let h = g.H.Hasher.hash in
    let b = c.args.hasher.now in
    let one = c.args.one.now.elements.now in
    let other = c.args.other.now.elements.now in
    let j = c.args.inactive_one in
    let k = c.args.inactive_other in
    let first = first_root s h b one other j k c.in_ok-first.first c.deref.result.now (c.deref.ensures.value ∙ c.requires.whole.0.peaks) c.in_ok-first.ensures in
    let second = second_root s h b one other j k c.in_ok-second.second c.deref-2.result.now (c.deref-2.ensures.value ∙ c.requires.whole.1.peaks) c.in_ok-second.ensures in
    let equal : c.in_ok-first.first ≡ c.in_ok-second.second = search (c.if-not-is_equal.ensures, rules) in
    let ca = g.met.F.Family.few_peaks (length one) c.requires.whole.0.few in
    let cb = g.met.F.Family.few_peaks (length other) c.requires.whole.1.few in
    let r = same_roots s h b one other j k c.requires.whole.0.few c.requires.whole.1.few (omega (arith, ca, c.requires.within.0)) (omega (arith, cb, c.requires.within.1)) (sym first ∙ equal ∙ second) in
    let counts : j ≡ k → ⊥ = subst (λ o. IfNone o (j ≡ k → ⊥)) c.in-None.is c.requires.counts in
    counts r.inactive

pub returns : goal.returns
returns g c =
    let s = g.F.Family.shape in
    let h = g.H.Hasher.hash in
    let b = c.args.hasher.now in
    let one = c.args.one.now.elements.now in
    let other = c.args.other.now.elements.now in
    let j = c.args.inactive_one in
    let k = c.args.inactive_other in
    let first = first_root s h b one other j k c.in_ok-first.first c.deref.result.now (c.deref.ensures.value ∙ c.requires.whole.0.peaks) c.in_ok-first.ensures in
    let second = second_root s h b one other j k c.in_ok-second.second c.deref-2.result.now (c.deref-2.ensures.value ∙ c.requires.whole.1.peaks) c.in_ok-second.ensures in
    let equal : c.in_ok-first.first ≡ c.in_ok-second.second = search (c.if-not-is_equal.ensures, rules) in
    let ca = g.met.F.Family.few_peaks (length one) c.requires.whole.0.few in
    let cb = g.met.F.Family.few_peaks (length other) c.requires.whole.1.few in
    let r = same_roots s h b one other j k c.requires.whole.0.few c.requires.whole.1.few (omega (arith, ca, c.requires.within.0)) (omega (arith, cb, c.requires.within.1)) (sym first ∙ equal ∙ second) in
    if_ok _ _ c.find_below.result c.find_below.ensures
    (λ r1 f. below_clash s h b one other j k c.peak_over-start.result.0 c.peak_over-start.result.1 r1.0 r1.1 r.leaves c.peak_over-start.ensures.peak f)
