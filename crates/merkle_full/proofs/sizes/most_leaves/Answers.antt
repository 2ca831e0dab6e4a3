use Rattle.std.proofs.Common.{◌≡◌, ℕ, ◌^◌, min, length, subst, arith}
use Rattle.tree_shape.specs.Shape.{made}
use Rattle.merkle_full.specs.Opening.{IsMost}
use Rattle.merkle_full.proofs.OpeningLemmas.{most_under}
use Rattle.merkle_full.proofs.sizes.most_leaves.Goals as goal

pub returns : goal.returns
returns g c =
    let s = g.F.Family.shape in
    let limit : c.min.result ≡ min c.args.end (length (made s c.args.cap)) = omega (arith, c.min.ensures, c.size.ensures) in
    most_under s c.args.cap c.args.end c.leaves_below.result c.requires (subst (λ (p : ℕ). IsMost s (2 ^ 62) p c.leaves_below.result) limit c.leaves_below.ensures)
