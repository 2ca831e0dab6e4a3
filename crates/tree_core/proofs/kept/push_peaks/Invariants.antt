use Rattle.std.proofs.Common.{◌≡◌, ◌+◌, ◌-◌, ◌≤◌, ◌++◌, length, take, drop}
use Rattle.std.specs.Prelude.{vec_capacity}
use Rattle.tree_shape.specs.Shape.{made, PeaksStand}
use Rattle.tree_core.specs.KeptNodes.{entry_at, placed, peaks_found}
use Rattle.tree_core.proofs.kept.push_peaks.Given as goal

-- with the peaks that are left all are there, and the pins that are looked among stay
abbrev pub invariant-loop-i : goal.invariant-loop-i
invariant-loop-i g l =
    let s = g.F.Family.shape in
    let hs = s.heights l.leaves in
    let old = l.fn.pins.items in
    let f = entry_at (take l.count old ++ placed l.first l.nodes) in
    record {
      told : l.pins.items ++ peaks_found s f l.end (drop l.i hs) ≡ old ++ peaks_found s f l.leaves hs;
      front : take l.count l.pins.items ≡ take l.count old;
      long : l.count ≤ length l.pins.items;
      room : length l.pins.items + (length hs - l.i) ≤ vec_capacity l.pins;
      capacity : vec_capacity l.fn.pins ≤ vec_capacity l.pins;
      stand : PeaksStand s (made s l.leaves) l.end (drop l.i hs);
      within : l.end ≤ l.leaves;
    }
