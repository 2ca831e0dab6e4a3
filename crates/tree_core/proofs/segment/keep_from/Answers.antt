use Rattle.std.proofs.Common.{◌≡◌, ℕ, ◌-◌, ◌++◌, Global, List, [], ◌∷◌, length, map, take, drop, zero, suc, refl, ◌∙◌, ap, arith, length-drop}
use Rattle.std.proofs.Math.Seq.{take-append_seam}
use Rattle.std.specs.declared.rc.Rc.{Rc}
use Rattle.tree_core.specs.declared.segment.Segment.{Segment}
use Rattle.tree_core.proofs.segment.keep_from.Goals as goal

map_drop : {X Y : Type 0} (f : X → Y) (xs : List X) (i : ℕ) → map f (drop i xs) ≡ drop i (map f xs)
map_drop f [] zero = refl
map_drop f [] (suc i) = refl
map_drop f (x ∷ xs) zero = refl
map_drop f (x ∷ xs) (suc i) = map_drop f xs i

pub returns : goal.returns
returns g c =
    let xs = c.args.segments.now.items in
    let place = c.args.place in
    let f = λ (r : Rc (Segment g.row.F.Denot g.row.D.Denot) Global). r.value in
    let kept : c.len.result - c.args.place ≡ length (drop c.args.place c.args.segments.now.items) = omega (arith, length-drop place xs, c.len.ensures, c.args.segments.now.ok.0) in
    ap (map f) (c.truncate.ensures.items ∙ ap (take (c.len.result - c.args.place)) c.rotate_left.ensures.items ∙ ap (λ k. take k (drop place xs ++ take place xs)) kept ∙ take-append_seam (drop place xs) (take place xs))
    ∙ map_drop f xs place
