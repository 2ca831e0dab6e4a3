use Rattle.std.proofs.Common.{◌<◌, ◌^◌, length, ◌∙◌, arith}
use Rattle.std.proofs.lemmas.Nat.{pow_pos}
use Rattle.tree_shape.proofs.NodeLemmas.{node-from_halves, node-leaf, read-get_or}
use Rattle.tree_shape.proofs.slow.+slow_node.Goals as goal

pub returns-then-height-eq0 : goal.returns-then-height-eq0
returns-then-height-eq0 g t c =
    let some : 0 < 2 ^ c.args.height = pow_pos c.args.height in
    let lt : c.args.start < length c.args.leaves.now = omega arith in
    read-get_or c.args.leaves.now c.args.start _ _ lt c.index-leaves-start.is ∙ node-leaf g.F.Family.shape g.H.Hasher.hash c.args.leaves.now c.args.start c.args.height c.if-height-eq0.true

pub returns-else-height-eq0 : goal.returns-else-height-eq0
returns-else-height-eq0 g t c =
    let lt : 0 < c.args.height = omega arith in
    c.node_digest.ensures ∙ rw (c.new-pos.ensures, c.position.ensures, c.slow_node-left.ensures, c.slow_node-right.ensures, c.half_width-half.ensures.half) (node-from_halves g.F.Family.shape g.H.Hasher.hash c.args.leaves.now c.args.start c.args.height lt)
