use Rattle.std.proofs.Common.{◌≡◌, true, false, length, sym, ap, arith}
use Rattle.tree_verification.proofs.ToldLemmas.{count-outside, count-leaf, count-halves, count-some, count-few}
use Rattle.tree_verification.proofs.counting.+left_behind.Goals as goal

pub returns-then-is_whole-clause-some : goal.returns-then-is_whole-clause-some
returns-then-is_whole-clause-some g t c = let none = ap length (c.is_whole.ensures c.if-is_whole.true) in omega (arith, none)

pub returns-then-height-eq0-clause-some : goal.returns-then-height-eq0-clause-some
returns-then-height-eq0-clause-some g t c =
    let met = g.W.Wanted.met c.args.wanted.now in
    let inside : met c.args.x c.args.height ≡ true = sym (c.if-not-is_met.ensures {u = tt}) in
    omega (arith, count-leaf met c.args.x c.args.height inside c.if-height-eq0.true)

pub returns-in-None-clause-none : goal.returns-in-None-clause-none
returns-in-None-clause-none g t c =
    let met = g.W.Wanted.met c.args.wanted.now in
    let inside : met c.args.x c.args.height ≡ true = sym (c.if-not-is_met.ensures {u = tt}) in
    omega (arith, (c.in-None.ensures {u = tt}).none, count-halves met c.args.x c.args.height c.half_width-half.result inside (omega arith) c.half_width-half.ensures.half)

pub returns-then-not-is_met-clause-some : goal.returns-then-not-is_met-clause-some
returns-then-not-is_met-clause-some g t c =
    let met = g.W.Wanted.met c.args.wanted.now in
    let out : met c.args.x c.args.height ≡ false = sym (c.if-not-is_met.ensures {u = tt}) in
    count-some c.one_less.result c.args.digests c.args.digests _ 0 1 (count-outside met c.args.x c.args.height out) (omega arith) c.one_less.ensures.some

pub returns-then-not-is_met-clause-none : goal.returns-then-not-is_met-clause-none
returns-then-not-is_met-clause-none g t c =
    let met = g.W.Wanted.met c.args.wanted.now in
    let out : met c.args.x c.args.height ≡ false = sym (c.if-not-is_met.ensures {u = tt}) in
    count-few c.one_less.result c.args.digests c.args.digests _ 0 1 (count-outside met c.args.x c.args.height out) (omega arith) c.one_less.ensures.none

pub returns-in-Some-clause-some : goal.returns-in-Some-clause-some
returns-in-Some-clause-some g t c =
    let met = g.W.Wanted.met c.args.wanted.now in
    let inside : met c.args.x c.args.height ≡ true = sym (c.if-not-is_met.ensures {u = tt}) in
    count-some c.left_behind-in-Some.result c.args.digests c.in-Some.left _ _ _ (count-halves met c.args.x c.args.height c.half_width-half.result inside (omega arith) c.half_width-half.ensures.half) (c.in-Some.ensures {u = tt}).some c.left_behind-in-Some.ensures.some

pub returns-in-Some-clause-none : goal.returns-in-Some-clause-none
returns-in-Some-clause-none g t c =
    let met = g.W.Wanted.met c.args.wanted.now in
    let inside : met c.args.x c.args.height ≡ true = sym (c.if-not-is_met.ensures {u = tt}) in
    count-few c.left_behind-in-Some.result c.args.digests c.in-Some.left _ _ _ (count-halves met c.args.x c.args.height c.half_width-half.result inside (omega arith) c.half_width-half.ensures.half) (c.in-Some.ensures {u = tt}).some c.left_behind-in-Some.ensures.none
