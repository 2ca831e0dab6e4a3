use Rattle.std.proofs.Common.{◌≡◌, List, length, sym, ◌∙◌, ap, arith}
use Rattle.volume_base.specs.Log.{Log, no_log}
use Rattle.memory_volume.specs.Versions.{Versions, only}
use Rattle.memory_volume.specs.Tables.{row_of}
use Rattle.memory_volume.specs.Replay.{replay_name, versions_in, replayed}
use Rattle.memory_volume.specs.declared.replay.Replayed.{Replayed}
use Rattle.memory_volume.proofs.TableLemmas.{value_behind, row_behind}
use Rattle.memory_volume.proofs.replay.replay_slot.Goals as goal

pub returns-in_ok-push-clause-kept : goal.returns-in_ok-push-clause-kept
returns-in_ok-push-clause-kept c other =
    ap (λ (l : List Replayed). replayed l other) c.in_ok-push.ensures.items
    ∙ value_behind replay_name versions_in (only no_log) c.args.rows.now.items _ other
    (ap (λ (p : Log). let made : Versions = record { present = p; earlier = c.new.result.items } in made) c.none.ensures ∙ ap (λ (l : List Log). let made : Versions = record { present = no_log; earlier = l } in made) c.new.ensures.items)

pub returns-in_ok-push-clause-at : goal.returns-in_ok-push-clause-at
returns-in_ok-push-clause-at c =
    let row : c.replay_row-row.result ≡ row_of replay_name c.args.rows.now.items c.args.name.now = c.replay_row-row.ensures.row ∙ ap (λ (l : List Replayed). row_of replay_name l c.as_slice.result.now) c.deref.ensures.value ∙ ap (row_of replay_name c.args.rows.now.items) (c.as_slice.ensures ∙ c.get.ensures) in
    let absent : row_of replay_name c.args.rows.now.items c.args.name.now ≡ length c.args.rows.now.items = omega (arith, row) in
    row ∙ absent ∙ sym (ap (λ (l : List Replayed). row_of replay_name l c.args.name.now) c.in_ok-push.ensures.items ∙ row_behind replay_name c.args.rows.now.items _ c.args.name.now absent c.in_ok-its.ensures)
