use Rattle.std.proofs.Common.{◌≡◌, ◌-◌, ◌++◌, length, take, drop, ◌∙◌, ap, arith, length-drop}
use Rattle.std.proofs.Math.Seq.{take-append_seam}
use Rattle.auth_journal.proofs.items.keep_from.Goals as goal

pub returns : goal.returns
returns g c =
    let xs = c.args.kept.now.items in
    let place = c.args.place in
    let kept : c.len.result - place ≡ length (drop place xs) = omega (arith, length-drop place xs, c.len.ensures, c.args.kept.now.ok.0) in
    c.truncate.ensures.items ∙ ap (take (c.len.result - place)) c.rotate_left.ensures.items ∙ ap (λ k. take k (drop place xs ++ take place xs)) kept ∙ take-append_seam (drop place xs) (take place xs)
