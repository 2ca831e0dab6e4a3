use Rattle.std.proofs.Common.{◌≡◌, suc, ◌+◌, ◌∷◌, drop, get_or, ◌∙◌, ap, arith}
use Rattle.std.proofs.Math.Seq.{drop-cons}
use Rattle.std.proofs.lemmas.List.{drop_all}
use Rattle.tree_proof.proofs.WalkLemmas.{told_next, told_none, told_all, told_few}
use Rattle.tree_proof.proofs.peaks.rebuild_nodes.Goals as goal

pub returns-in_default : goal.returns-in_default
returns-in_default g c =
    told_none g.F.Family.shape g.H.Hasher.hash (g.K.Wanted.met c.args.known.now) (g.K.Known.leaf_of c.args.known.now) c.args.nodes.now c.args.digests.now _ _ _ _ _ _ c.loop-i.invariant
    (drop-cons c.args.nodes.now c.loop-i.i (0, 0) c.loop-i-test.true) (c.in_default.ensures {u = tt}).none

pub loop-i-preserved : goal.loop-i-preserved
loop-i-preserved g c =
    let up : suc c.loop-i.i ≡ c.loop-i.i + 1 = omega arith in
    told_next g.F.Family.shape g.H.Hasher.hash (g.K.Wanted.met c.args.known.now) (g.K.Known.leaf_of c.args.known.now) c.args.nodes.now c.args.digests.now _ _ _ _ _ _ _ _ _ c.loop-i.invariant
    (drop-cons c.args.nodes.now c.loop-i.i (0, 0) c.loop-i-test.true ∙ ap (λ j. get_or c.args.nodes.now c.loop-i.i (0, 0) ∷ drop j c.args.nodes.now) up) (c.in-Some.ensures {u = tt}).some (c.in_ok-push.ensures {u = tt}).items

pub returns-then-at-digests : goal.returns-then-at-digests
returns-then-at-digests g c =
    told_few g.F.Family.shape g.H.Hasher.hash (g.K.Wanted.met c.args.known.now) (g.K.Known.leaf_of c.args.known.now) c.args.nodes.now c.args.digests.now _ _ _ c.loop-i.invariant (drop_all c.loop-i.i c.args.nodes.now c.loop-i-test.false) c.if-at-digests.true

pub returns : goal.returns
returns g c =
    told_all g.F.Family.shape g.H.Hasher.hash (g.K.Wanted.met c.args.known.now) (g.K.Known.leaf_of c.args.known.now) c.args.nodes.now c.args.digests.now _ _ _ c.loop-i.invariant (drop_all c.loop-i.i c.args.nodes.now c.loop-i-test.false) c.if-at-digests.false
