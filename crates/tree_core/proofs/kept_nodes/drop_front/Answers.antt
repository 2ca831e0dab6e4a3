use Rattle.std.proofs.Common.{◌≡◌, ◌-◌, ◌++◌, length, take, drop, ◌∙◌, ap, arith, length-drop}
use Rattle.std.proofs.Math.Seq.{take-append_seam}
use Rattle.tree_core.proofs.kept_nodes.drop_front.Goals as goal

pub returns-clause-items : goal.returns-clause-items
returns-clause-items g c =
    let xs = c.args.items.now.items in
    let count = c.args.count in
    let left : c.len.result - count ≡ length (drop count xs) = omega (arith, length-drop count xs, c.len.ensures, c.args.items.now.ok.0) in
    c.truncate.ensures.items ∙ ap (take (c.len.result - count)) c.rotate_left.ensures.items ∙ ap (λ n. take n (drop count xs ++ take count xs)) left ∙ take-append_seam (drop count xs) (take count xs)
