use Rattle.std.proofs.Common.{◌++◌, length, sym, ◌∙◌, ap, subst, arith}
use Rattle.tree_shape.specs.Shape.{made}
use Rattle.tree_core.specs.KeptNodes.{entry_at, placed, AreBefore}
use Rattle.tree_core.proofs.PrunedLemmas.{empty_pruned}
use Rattle.tree_core.proofs.mem.Mem.new.Goals as goal

pub invariant_of-result : goal.invariant_of-result
invariant_of-result g c = let s = g.F.Family.shape in
    let pins = c.in_ok-pins.pins.items in
    let run = c.new.result.items in
    let no_pins = c.in_ok-pins.ensures.items in
    let no_run = c.new.ensures.items in
    let few = ap length no_pins in
    let short = ap length no_run in
    let room = c.in_ok-pins.ensures.capacity in
    record {
      sound = record {
        few = omega arith;
        within = omega arith;
        held = empty_pruned s (entry_at (pins ++ placed (length (made s 0)) run)) g.met.F.Family.lawful (λ p. ap (λ es. entry_at (es ++ placed (length (made s 0)) run) p) no_pins ∙ ap (λ ds. entry_at (placed (length (made s 0)) ds) p) no_run);
      };
      before = subst (AreBefore (length (made s 0))) (sym no_pins) tt;
      room = (omega (arith, few, room), omega (arith, room));
      ended = omega (arith, short);
    }
