use Rattle.std.proofs.Common.{◌+◌, ◌^◌, ◌<◌, ◌≤◌, ◌++◌, sym, ◌∙◌, ap, arith}
use Rattle.tree_proof.proofs.LeftLemmas.{left-here, left-none, left-halves, to-cover, of-cover}
use Rattle.tree_proof.proofs.RebuildLemmas.{append_nil}
use Rattle.tree_proof.proofs.left.+push_left.Goals as goal
use Rattle.tree_proof.proofs.left.+push_left.Goals.{then-leaves-x-via-then-leaves-x, then-leaves-x-via-else-leaves-x+then-height-eq0}

pub returns-then-x-width : goal.returns-then-x-width
returns-then-x-width t c =
    let le : c.args.x + 2 ^ c.args.height ≤ c.args.leaves = omega (arith, c.width.ensures, c.if-x-width.true) in
    to-cover c.args.leaves c.args.x c.args.height _ _ ((c.in_ok-push.ensures {u = tt}).items ∙ ap (λ ps. c.args.nodes.now.items ++ ps) (sym (left-here c.args.leaves c.args.x c.args.height le)))

pub returns-then-leaves-x : goal.returns-then-leaves-x
returns-then-leaves-x t c =
    let lt : c.args.leaves < c.args.x + 2 ^ c.args.height = omega (arith, c.width.ensures, c.if-x-width.false) in
    let le : c.args.leaves ≤ c.args.x = elim c.then-leaves-x.branch [
      | then-leaves-x-via-then-leaves-x w ↦ w.if-leaves-x.true
      | then-leaves-x-via-else-leaves-x+then-height-eq0 w ↦ omega (arith, lt, ap (λ k. 2 ^ k) w.if-height-eq0.true)
    ] in
    to-cover c.args.leaves c.args.x c.args.height _ _ (sym (ap (λ ps. c.args.nodes.now.items ++ ps) (left-none c.args.leaves c.args.x c.args.height lt le) ∙ append_nil c.args.nodes.now.items))

pub returns : goal.returns
returns t c =
    let lt : c.args.leaves < c.args.x + 2 ^ c.args.height = omega (arith, c.width.ensures, c.if-x-width.false) in
    to-cover c.args.leaves c.args.x c.args.height _ _
    (left-halves c.args.leaves c.args.x c.args.height c.half_width-half.result c.args.nodes.now.items _ _ lt c.if-leaves-x.false (omega arith) c.half_width-half.ensures.half
    (of-cover c.args.leaves _ _ _ _ c.in_ok-push_left.ensures) (of-cover c.args.leaves _ _ _ _ c.in_ok-push_left-2.ensures))
