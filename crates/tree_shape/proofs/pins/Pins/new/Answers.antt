use Rattle.std.proofs.Common.{sym, ◌∙◌, ap, arith}
use Rattle.tree_shape.specs.Shape.{made}
use Rattle.tree_shape.specs.Pins.{base, pins_left}
use Rattle.tree_shape.proofs.PinLemmas.{base-end, pins_left-all}
use Rattle.tree_shape.proofs.pins.Pins.new.Goals as goal

pub invariant_of-result : goal.invariant_of-result
invariant_of-result g c =
    let s = g.F.Family.shape in
    let n = c.args.leaves in
    let e = base-end s (made s n) n (s.heights n) (g.met.F.Family.lawful.peaks n) in
    record { few = c.requires; within = omega (arith, c.peak_count.ensures); at = sym (ap (base n (s.heights n)) c.peak_count.ensures ∙ e) }

pub returns : goal.returns
returns g c = let s = g.F.Family.shape in ap (pins_left s c.args.leaves) c.peak_count.ensures ∙ pins_left-all s c.args.leaves
