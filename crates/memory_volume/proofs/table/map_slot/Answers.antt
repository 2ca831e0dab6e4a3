use Rattle.std.proofs.Common.{◌≡◌, List, length, sym, ◌∙◌, ap, arith}
use Rattle.std.specs.FinMap as map
use Rattle.memory_volume.specs.Tables.{row_of, map_name, held_map, stored_map}
use Rattle.memory_volume.specs.declared.stored.StoredMap.{StoredMap}
use Rattle.memory_volume.proofs.TableLemmas.{value_behind, row_behind}
use Rattle.memory_volume.proofs.table.map_slot.Goals as goal

pub returns-in_ok-push-clause-kept : goal.returns-in_ok-push-clause-kept
returns-in_ok-push-clause-kept c other =
    ap (λ (l : List StoredMap). stored_map l other) c.in_ok-push.ensures.items
    ∙ value_behind map_name held_map map.empty c.args.maps.now.items _ other (c.in_ok-map.ensures ∙ c.new.ensures)

pub returns-in_ok-push-clause-at : goal.returns-in_ok-push-clause-at
returns-in_ok-push-clause-at c =
    let row : c.map_row-row.result ≡ row_of map_name c.args.maps.now.items c.args.name.now = c.map_row-row.ensures.row ∙ ap (λ (l : List StoredMap). row_of map_name l c.args.name.now) c.deref.ensures.value in
    let absent : row_of map_name c.args.maps.now.items c.args.name.now ≡ length c.args.maps.now.items = omega (arith, row) in
    row ∙ absent ∙ sym (ap (λ (l : List StoredMap). row_of map_name l c.args.name.now) c.in_ok-push.ensures.items ∙ row_behind map_name c.args.maps.now.items _ c.args.name.now absent c.in_ok-its.ensures.same)
