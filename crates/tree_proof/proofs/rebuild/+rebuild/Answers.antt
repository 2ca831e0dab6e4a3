use Rattle.std.proofs.Common.{rules, ◌≡◌, ℕ, drop, false, true, sym, ◌∙◌, ap, arith}
use Rattle.tree_proof.proofs.RebuildLemmas.{rebuilt-outside, rebuilt-leaf, rebuilt-no_left, rebuilt-no_right, rebuilt-parent}
use Rattle.tree_proof.proofs.rebuild.+rebuild.Goals as goal

pub returns-then-not-is_met-clause-some : goal.returns-then-not-is_met-clause-some
returns-then-not-is_met-clause-some g t c =
    let met_by = g.K.Wanted.met c.args.known.now in
    let out : met_by c.args.x c.args.height ≡ false = sym (c.if-not-is_met.ensures {u = tt}) in
    rw rebuilt-outside c.next.ensures.some

pub returns-then-not-is_met-clause-none : goal.returns-then-not-is_met-clause-none
returns-then-not-is_met-clause-none g t c =
    let met_by = g.K.Wanted.met c.args.known.now in
    let out : met_by c.args.x c.args.height ≡ false = sym (c.if-not-is_met.ensures {u = tt}) in
    rw rebuilt-outside c.next.ensures.none

pub returns-in-None-clause-none : goal.returns-in-None-clause-none
returns-in-None-clause-none g t c =
    let met_by = g.K.Wanted.met c.args.known.now in
    let met : met_by c.args.x c.args.height ≡ true = sym (c.if-not-is_met.ensures {u = tt}) in
    rebuilt-no_left g.F.Family.shape g.H.Hasher.hash met_by (g.K.Known.leaf_of c.args.known.now) c.args.x c.args.height (drop c.args.at c.args.digests.now) met (omega arith) (c.in-None.ensures {u = tt}).none

pub returns-in-None-rebuild-clause-none : goal.returns-in-None-rebuild-clause-none
returns-in-None-rebuild-clause-none g t c =
    let met_by = g.K.Wanted.met c.args.known.now in
    let met : met_by c.args.x c.args.height ≡ true = sym (c.if-not-is_met.ensures {u = tt}) in
    rebuilt-no_right g.F.Family.shape g.H.Hasher.hash met_by (g.K.Known.leaf_of c.args.known.now) c.args.x c.args.height c.half_width-half.result (drop c.args.at c.args.digests.now) _ _ met (omega arith) c.half_width-half.ensures.half (c.in-Some.ensures {u = tt}).some (c.in-None-rebuild.ensures {u = tt}).none

pub returns-in-Some-rebuild-clause-some : goal.returns-in-Some-rebuild-clause-some
returns-in-Some-rebuild-clause-some g t c =
    let met_by = g.K.Wanted.met c.args.known.now in
    let met : met_by c.args.x c.args.height ≡ true = sym (c.if-not-is_met.ensures {u = tt}) in
    let parent = rebuilt-parent g.F.Family.shape g.H.Hasher.hash met_by (g.K.Known.leaf_of c.args.known.now) c.args.x c.args.height c.half_width-half.result (drop c.args.at c.args.digests.now) _ _ _ _ met (omega arith) c.half_width-half.ensures.half (c.in-Some.ensures {u = tt}).some (c.in-Some-rebuild.ensures {u = tt}).some in
    let digest = rw (c.new-pos.ensures, c.position.ensures) at c.node_digest-parent.ensures in
    parent ∙ search (c.in-Some-rebuild.then-is, c.in-Some-rebuild.right-is, digest, rules)

pub leaf-requires-clause-here : goal.leaf-requires-clause-here
leaf-requires-clause-here g t c =
    let met_by = g.K.Wanted.met c.args.known.now in
    let met : met_by c.args.x c.args.height ≡ true = sym (c.if-not-is_met.ensures {u = tt}) in
    sym (ap (λ (k : ℕ). met_by c.args.x k) c.if-height-eq0.true) ∙ met

pub returns-then-height-eq0-clause-some : goal.returns-then-height-eq0-clause-some
returns-then-height-eq0-clause-some g t c =
    let met_by = g.K.Wanted.met c.args.known.now in
    let met : met_by c.args.x c.args.height ≡ true = sym (c.if-not-is_met.ensures {u = tt}) in
    rw c.leaf.ensures (rebuilt-leaf g.F.Family.shape g.H.Hasher.hash met_by (g.K.Known.leaf_of c.args.known.now) c.args.x c.args.height (drop c.args.at c.args.digests.now) met c.if-height-eq0.true)
