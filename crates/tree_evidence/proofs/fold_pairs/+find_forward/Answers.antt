use Rattle.std.proofs.Common.{rules, ◌<◌, length, arith}
use Rattle.tree_evidence.proofs.FoldLemmas.{forward_later, found_some}
use Rattle.tree_evidence.proofs.fold_pairs.+find_forward.Goals as goal

pub returns-in-Some : goal.returns-in-Some
returns-in-Some g t c =
    let h = g.H.Hasher.hash in
    let some : 0 < length c.args.ones.now = search (c.if-is_empty, c.is_empty.ensures, rules) in
    forward_later h c.args.first.one c.args.first.other c.args.ones.now c.args.others.now _ _ _ _ _ _ some (omega (arith, some, c.requires.counted)) c.index-ones-0.is c.index-others-0.is c.fold.ensures c.fold-2.ensures
    (found_some h _ _ _ _ _ c.in-Some.is c.in_ok-clash.ensures)
