use Rattle.std.proofs.Common.{◌≡◌, [], ◌∷◌, ◌++◌, length, map, sym, ◌∙◌, ap, subst}
use Rattle.tree_shape.specs.Shape.{peaks}
use Rattle.tree_shape.specs.Slow.{leaf, node_of}
use Rattle.merkle_compact.specs.Frontier.{HasPeaks}
use Rattle.tree_core.specs.Tree.{IsOf}
use Rattle.compact_db.proofs.DerivedLemmas.{pins_given}
use Rattle.compact_db.proofs.rebuilding.tree_with_commit.Goals as goal

pub returns-clause-list : goal.returns-clause-list
returns-clause-list g c all count pins =
    let s = g.F.Family.shape in
    let h = g.H.Hasher.hash in
    let before = c.in-Ok.ensures.tree h all (c.new.ensures ∙ count)
    (pins ∙ ap (λ k. map (node_of s h all) (peaks s k)) (sym c.new.ensures)) in
    subst (λ bytes. IsOf s h (all ++ (leaf s h (length all) bytes ∷ [])) c.append_leaf.new.self) c.as_slice.ensures
    (c.in-Ok-append_leaf.ensures.tree all before)

pub returns-clause-pins : goal.returns-clause-pins
returns-clause-pins g c ds read =
    let s = g.F.Family.shape in
    let old : c.in-Ok.merkle.leaves ≡ c.args.before = c.in-Ok.ensures.leaves ∙ c.new.ensures in
    let are : HasPeaks s c.args.before c.args.pins.items c.in-Ok.merkle = subst (λ n. HasPeaks s n c.args.pins.items c.in-Ok.merkle) c.new.ensures c.in-Ok.ensures.pins in
    pins_given s c.in-Ok.merkle c.append_leaf.new.self c.args.before c.args.pins.items ds g.met.F.Family.lawful old are c.in-Ok-append_leaf.ensures.longer.nodes read
