use Rattle.std.proofs.Common.{◌≡◌, drop}
use Rattle.merkle_full.specs.Pruning.{with_pins}
use Rattle.merkle_full.proofs.boundary_map.put_pins.Given as goal

abbrev pub invariant-loop-i : goal.invariant-loop-i
invariant-loop-i g l = with_pins g.D.Spelled.spelling l.map (drop l.i l.positions) (drop l.i l.pins) ≡ with_pins g.D.Spelled.spelling l.initial.map l.positions l.pins
