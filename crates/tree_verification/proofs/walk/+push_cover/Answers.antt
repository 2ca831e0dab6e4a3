use Rattle.std.proofs.Common.{◌≡◌, ◌++◌, true, false, map, sym, ◌∙◌, ap, arith}
use Rattle.tree_shape.specs.Pins.{position_of}
use Rattle.tree_proof.proofs.RebuildLemmas.{append_nil}
use Rattle.tree_proof.proofs.CoverSteps.{cover_in-outside, cover_in-leaf}
use Rattle.tree_verification.proofs.WalkLemmas.{found_both}
use Rattle.tree_verification.proofs.walk.+push_cover.Goals as goal

pub returns-then-is_whole : goal.returns-then-is_whole
returns-then-is_whole g t c =
    let none = c.is_whole.ensures c.if-is_whole.true in
    sym (ap (λ ps. c.args.positions.now.items ++ map (position_of g.F.Family.shape) ps) none ∙ append_nil c.args.positions.now.items)

pub returns-then-not-is_met : goal.returns-then-not-is_met
returns-then-not-is_met g t c =
    let met = g.W.Wanted.met c.args.wanted.now in
    let out : met c.args.x c.args.height ≡ false = sym (c.if-not-is_met.ensures {u = tt}) in
    c.in_ok-push_position.ensures ∙ ap (λ ps. c.args.positions.now.items ++ map (position_of g.F.Family.shape) ps) (sym (cover_in-outside met c.args.x c.args.height out))

pub returns-then-height-eq0 : goal.returns-then-height-eq0
returns-then-height-eq0 g t c =
    let met = g.W.Wanted.met c.args.wanted.now in
    let inside : met c.args.x c.args.height ≡ true = sym (c.if-not-is_met.ensures {u = tt}) in
    sym (ap (λ ps. c.args.positions.now.items ++ map (position_of g.F.Family.shape) ps) (cover_in-leaf met c.args.x c.args.height inside c.if-height-eq0.true) ∙ append_nil c.args.positions.now.items)

pub returns : goal.returns
returns g t c =
    let met = g.W.Wanted.met c.args.wanted.now in
    let inside : met c.args.x c.args.height ≡ true = sym (c.if-not-is_met.ensures {u = tt}) in
    found_both g.F.Family.shape met c.args.positions.now.items _ _ c.args.x c.args.height c.half_width-half.result inside (omega arith) c.half_width-half.ensures.half c.in_ok-push_cover.ensures c.in_ok-push_cover-2.ensures
