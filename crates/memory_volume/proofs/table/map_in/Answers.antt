use Rattle.std.proofs.Common.{sym, ◌∙◌, ap, arith}
use Rattle.std.specs.FinMap as map
use Rattle.memory_volume.specs.Tables.{map_name, held_map}
use Rattle.memory_volume.proofs.TableLemmas.{value_here, value_absent}
use Rattle.memory_volume.proofs.table.map_in.Goals as goal

pub returns-then-row-maps-clause-map : goal.returns-then-row-maps-clause-map
returns-then-row-maps-clause-map c = c.new.ensures ∙ sym (value_absent map_name held_map map.empty c.args.maps.now c.args.name.now (omega (arith, c.map_row-row.ensures.row, c.if-row-maps.true)))

pub bounds-maps-row : goal.bounds-maps-row
bounds-maps-row c = omega arith

pub returns-in-Ok-clause-map : goal.returns-in-Ok-clause-map
returns-in-Ok-clause-map c =
    let here = value_here map_name held_map map.empty c.args.maps.now c.args.name.now c.map_row-row.result c.index-maps-row.result c.map_row-row.ensures.row (omega arith) c.index-maps-row.is in
    c.in-Ok.ensures.same ∙ c.get.ensures ∙ ap held_map (sym c.index-maps-row.is) ∙ sym here
