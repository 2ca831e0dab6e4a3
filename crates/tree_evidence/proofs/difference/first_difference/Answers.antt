use Rattle.std.proofs.Common.{rules, ◌≡◌, length, [], sym, arith}
use Rattle.tree_evidence.proofs.DifferenceLemmas.{ends_first, items_differ, fronts_on}
use Rattle.tree_evidence.proofs.difference.first_difference.Goals.{then-i-other-via-then-i-other, then-i-other-via-else-i-other+then-not-is_equal}
use Rattle.tree_evidence.proofs.difference.first_difference.Goals as goal

pub returns-then-i-other-clause-some : goal.returns-then-i-other-clause-some
returns-then-i-other-clause-some c e = elim c.then-i-other.branch [
  | then-i-other-via-then-i-other w ↦ ends_first c.args.one.now c.args.other.now c.loop-i.i [] c.loop-i-test.true (omega (arith, w.if-i-other.true)) e
  | then-i-other-via-else-i-other+then-not-is_equal w ↦
      items_differ c.args.one.now c.args.other.now c.loop-i.i _ _ [] c.loop-i-test.true (omega (arith, w.if-i-other.false)) w.index-one-i.is w.index-other-i.is (λ q. search (w.if-not-is_equal, w.is_equal.ensures.1 q, rules)) e
]

pub loop-i-preserved : goal.loop-i-preserved
loop-i-preserved c =
    let same : c.index-one-i.result ≡ c.index-other-i.result = search (c.if-not-is_equal.ensures, rules) in
    (omega (arith, c.if-i-other.false), fronts_on c.args.one.now c.args.other.now c.loop-i.i _ _ [] c.loop-i-test.true c.if-i-other.false c.index-one-i.is c.index-other-i.is same c.loop-i.invariant.1)

pub returns-then-one-other-clause-some : goal.returns-then-one-other-clause-some
returns-then-one-other-clause-some c e = ends_first c.args.other.now c.args.one.now (length c.args.one.now) [] (omega (arith, c.if-one-other.true)) (omega arith) (sym e)
