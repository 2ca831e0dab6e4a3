use Rattle.std.proofs.Common.{◌≡◌, ℕ, suc, ◌+◌, ◌-◌, ◌*◌, ◌^◌, ◌<◌, ◌∙◌, ap, arith}
use Rattle.std.proofs.Math.Nat.{pow-suc}
use Rattle.std.proofs.lemmas.Nat.{one_shl}
use Rattle.tree_shape.proofs.widths.half_width.Goals as goal

doubled : (h : ℕ) → 0 < h → 2 ^ h ≡ 2 ^ (h - 1) + 2 ^ (h - 1)
doubled h lt = let e : h ≡ suc (h - 1) = omega arith in let p : 2 ^ h ≡ 2 ^ (h - 1) * 2 = ap (λ k. 2 ^ k) e ∙ pow-suc 2 (h - 1) in omega arith

pub returns-clause-half : goal.returns-clause-half
returns-clause-half c = one_shl (c.args.height - 1) 64 (omega arith)

pub returns-clause-whole : goal.returns-clause-whole
returns-clause-whole c = omega (arith, one_shl (c.args.height - 1) 64 (omega arith), doubled c.args.height (omega arith))
