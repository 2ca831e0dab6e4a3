use Rattle.std.proofs.Common.{rules, ◌<◌, length, arith}
use Rattle.tree_evidence.proofs.FoldLemmas.{outer_found, inner_found, found_some, found_none, if_ok}
use Rattle.tree_evidence.proofs.fold_pairs.find_folded.Goals as goal

pub returns-in-Some : goal.returns-in-Some
returns-in-Some g c =
    let h = g.H.Hasher.hash in
    let some : 0 < length c.args.ones.now = search (c.if-is_empty, c.is_empty.ensures, rules) in
    outer_found h c.args.hasher.now c.args.inactive c.args.ones.now c.args.others.now _ _ _ _ _ _ (omega (arith, c.if-count-eq0.false)) some (omega (arith, some, c.requires.counted)) c.index-ones-0.is c.index-others-0.is
    c.forward_fold.ensures c.forward_fold-2.ensures (found_some h _ _ _ _ _ c.in-Some.is c.in_ok-clash.ensures)

pub returns-in-None : goal.returns-in-None
returns-in-None g c =
    let h = g.H.Hasher.hash in
    let some : 0 < length c.args.ones.now = search (c.if-is_empty, c.is_empty.ensures, rules) in
    let same = found_none h _ _ _ _ c.in-None.is c.in_ok-clash.ensures in
    if_ok _ _ c.find_forward.result c.find_forward.ensures
    (λ r f. inner_found h c.args.hasher.now c.args.inactive c.args.ones.now c.args.others.now _ _ r (omega (arith, c.if-count-eq0.false)) some (omega (arith, some, c.requires.counted)) c.index-ones-0.is c.index-others-0.is same.1 f)
