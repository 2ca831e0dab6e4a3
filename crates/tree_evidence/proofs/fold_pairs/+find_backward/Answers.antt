use Rattle.std.proofs.Common.{rules, ◌<◌, length, arith}
use Rattle.tree_evidence.proofs.FoldLemmas.{backward_here, backward_later, fold_some, fold_none, if_ok}
use Rattle.tree_evidence.proofs.fold_pairs.+find_backward.Goals as goal

pub returns-in-Some : goal.returns-in-Some
returns-in-Some g t c =
    let h = g.H.Hasher.hash in
    let some : 0 < length c.args.ones.now = search (c.if-is_empty, c.is_empty.ensures, rules) in
    backward_here h c.args.first.one c.args.first.other c.args.ones.now c.args.others.now _ _ _ _ _ _ some (omega (arith, some, c.requires.counted)) c.index-ones-0.is c.index-others-0.is c.backward_fold.ensures c.backward_fold-2.ensures c.requires.same
    (fold_some h _ _ _ _ c.in-Some.is c.in_ok-clash.ensures)

pub returns-in-None : goal.returns-in-None
returns-in-None g t c =
    let h = g.H.Hasher.hash in
    let some : 0 < length c.args.ones.now = search (c.if-is_empty, c.is_empty.ensures, rules) in
    let same = fold_none h _ _ _ c.in-None.is c.in_ok-clash.ensures in
    if_ok _ _ c.find_backward.result c.find_backward.ensures
    (λ r f. backward_later h c.args.first.one c.args.first.other c.args.ones.now c.args.others.now _ _ r some (omega (arith, some, c.requires.counted)) c.index-ones-0.is c.index-others-0.is same.0 f)
