use Rattle.std.proofs.Common.{rules, ◌≡◌, ◌≤◌, ◌<◌, ◌+◌, ◌-◌, ◌++◌, length, true, false, map, sym, arith}
use Rattle.std.specs.BTreeMap.{get}
use Rattle.std.specs.Ordering.{nat_cmp}
use Rattle.tree_proof.specs.Cover.{cover_in}
use Rattle.tree_verification.specs.Told.{in_tree}
use Rattle.tree_verification.proofs.ToldLemmas.{count-outside, count-leaf, count-halves, puts-outside, puts-leaf, puts-parent, taken-halves}
use Rattle.tree_verification.proofs.told.+tell.Goals as goal

pub prove-unreachable-requires : goal.prove-unreachable-requires
prove-unreachable-requires g t c =
    let met = g.K.Wanted.met c.args.known.now in
    let out : met c.args.x c.args.height ≡ false = sym (c.if-not-is_met.ensures {u = tt}) in
    let here : c.args.at < length c.args.digests.now = omega (arith, c.requires.enough, count-outside met c.args.x c.args.height out) in
    search (here, rules)

pub returns-then-not-is_met-clause-behind : goal.returns-then-not-is_met-clause-behind
returns-then-not-is_met-clause-behind g t c =
    let met = g.K.Wanted.met c.args.known.now in
    let out : met c.args.x c.args.height ≡ false = sym (c.if-not-is_met.ensures {u = tt}) in
    omega (arith, count-outside met c.args.x c.args.height out)

pub returns-then-not-is_met-clause-puts : goal.returns-then-not-is_met-clause-puts
returns-then-not-is_met-clause-puts g t c tree rest hashed told =
    let met = g.K.Wanted.met c.args.known.now in
    let x = c.args.x in
    let k = c.args.height in
    let ds = c.args.digests.now in
    let out : met x k ≡ false = sym (c.if-not-is_met.ensures {u = tt}) in
    puts-outside g.F.Family.shape g.H.Hasher.hash met (g.K.Known.leaf_of c.args.known.now) tree x k c.args.at ds rest (get nat_cmp c.args.nodes.now) (get nat_cmp c.put.new.nodes) c.index-digests-at.result out
    (omega (arith, c.requires.enough, count-outside met x k out)) c.index-digests-at.is (c.in_ok-put.ensures {u = tt}) told

pub returns-then-height-eq0-clause-behind : goal.returns-then-height-eq0-clause-behind
returns-then-height-eq0-clause-behind g t c =
    let met = g.K.Wanted.met c.args.known.now in
    let inside : met c.args.x c.args.height ≡ true = sym (c.if-not-is_met.ensures {u = tt}) in
    omega (arith, count-leaf met c.args.x c.args.height inside c.if-height-eq0.true)

pub returns-then-height-eq0-clause-puts : goal.returns-then-height-eq0-clause-puts
returns-then-height-eq0-clause-puts g t c tree rest hashed told =
    let met = g.K.Wanted.met c.args.known.now in
    let inside : met c.args.x c.args.height ≡ true = sym (c.if-not-is_met.ensures {u = tt}) in
    puts-leaf g.F.Family.shape g.H.Hasher.hash met (g.K.Known.leaf_of c.args.known.now) tree c.args.x c.args.height c.args.at c.args.digests.now rest (get nat_cmp c.args.nodes.now) (get nat_cmp c.put-then-height-eq0.new.nodes) c.leaf-digest.result hashed inside
    c.if-height-eq0.true c.leaf-digest.ensures (c.in_ok-put-2.ensures {u = tt}) told

pub tell-requires : goal.tell-requires
tell-requires g t c =
    let met = g.K.Wanted.met c.args.known.now in
    let inside : met c.args.x c.args.height ≡ true = sym (c.if-not-is_met.ensures {u = tt}) in
    let halves = count-halves met c.args.x c.args.height c.half_width-half.result inside (omega arith) c.half_width-half.ensures.half in
    let enough : c.args.at + length (cover_in met c.args.x (c.args.height - 1)) ≤ length c.args.digests.now = omega (arith, c.requires.enough, halves) in
    search (enough, rules)

pub tell-requires-2 : goal.tell-requires-2
tell-requires-2 g t c =
    let met = g.K.Wanted.met c.args.known.now in
    let inside : met c.args.x c.args.height ≡ true = sym (c.if-not-is_met.ensures {u = tt}) in
    let half = c.half_width-half.result in
    let halves = count-halves met c.args.x c.args.height half inside (omega arith) c.half_width-half.ensures.half in
    let enough : c.in_ok-left.then + length (cover_in met (c.args.x + half) (c.args.height - 1)) ≤ length c.args.digests.now = omega (arith, c.requires.enough, c.in_ok-left.ensures.behind, halves) in
    search (enough, rules)

pub returns-clause-behind : goal.returns-clause-behind
returns-clause-behind g t c =
    let met = g.K.Wanted.met c.args.known.now in
    let inside : met c.args.x c.args.height ≡ true = sym (c.if-not-is_met.ensures {u = tt}) in
    omega (arith, c.in_ok-left.ensures.behind, c.in_ok-right.ensures.behind, count-halves met c.args.x c.args.height c.half_width-half.result inside (omega arith) c.half_width-half.ensures.half)

pub returns-clause-puts : goal.returns-clause-puts
returns-clause-puts g t c tree rest hashed told =
    let s = g.F.Family.shape in
    let h = g.H.Hasher.hash in
    let met = g.K.Wanted.met c.args.known.now in
    let leaf_of = g.K.Known.leaf_of c.args.known.now in
    let x = c.args.x in
    let k = c.args.height in
    let half = c.half_width-half.result in
    let inside : met x k ≡ true = sym (c.if-not-is_met.ensures {u = tt}) in
    let others = map (in_tree tree) (cover_in met (x + half) (k - 1)) ++ rest in
    let l = c.in_ok-left.ensures.puts tree others hashed (taken-halves s h met leaf_of tree x k half c.args.at c.args.digests.now rest inside (omega arith) c.half_width-half.ensures.half told) in
    let r = c.in_ok-right.ensures.puts tree rest hashed l.taken in
    let digest = rw (c.new-pos.ensures, c.position.ensures) at c.node_digest-parent.ensures in
    puts-parent s h met leaf_of tree x k half _ _ _ _ _ _ _ _ _ _ rest hashed inside (omega arith) c.half_width-half.ensures.half l r digest (c.in_ok-put-3.ensures {u = tt})
