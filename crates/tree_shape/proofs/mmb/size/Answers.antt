use Rattle.std.proofs.Common.{◌-◌, ◌*◌, ◌∙◌, ap, arith}
use Rattle.tree_shape.proofs.Merge.{peaks-leading, few_peaks}
use Rattle.tree_shape.proofs.mmb.size.Goals as goal

pub overflow_sub-result : goal.overflow_sub-result
overflow_sub-result c = let p = peaks-leading c.args.n (omega arith) in let f = few_peaks c.args.n in rw (c.from.ensures, p) (omega arith)

pub returns : goal.returns
returns c = let p = peaks-leading c.args.n (omega arith) in ap (λ k. 2 * c.args.n - k) (c.from.ensures ∙ p)
