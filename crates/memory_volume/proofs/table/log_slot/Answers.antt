use Rattle.std.proofs.Common.{◌≡◌, List, length, sym, ◌∙◌, ap, arith}
use Rattle.volume_base.specs.Log.{no_log}
use Rattle.memory_volume.specs.Tables.{row_of, log_name, log_of, stored_log}
use Rattle.memory_volume.specs.declared.stored.StoredLog.{StoredLog}
use Rattle.memory_volume.proofs.TableLemmas.{value_behind, row_behind}
use Rattle.memory_volume.proofs.table.log_slot.Goals as goal

pub returns-in_ok-push-clause-kept : goal.returns-in_ok-push-clause-kept
returns-in_ok-push-clause-kept c other =
    ap (λ (l : List StoredLog). stored_log l other) c.in_ok-push.ensures.items
    ∙ value_behind log_name log_of no_log c.args.logs.now.items _ other (ap (λ l. record { start = 0; items = l }) c.new.ensures.items)

pub returns-in_ok-push-clause-at : goal.returns-in_ok-push-clause-at
returns-in_ok-push-clause-at c =
    let row : c.log_row-row.result ≡ row_of log_name c.args.logs.now.items c.args.name.now = c.log_row-row.ensures.row ∙ ap (λ (l : List StoredLog). row_of log_name l c.args.name.now) c.deref.ensures.value in
    let absent : row_of log_name c.args.logs.now.items c.args.name.now ≡ length c.args.logs.now.items = omega (arith, row) in
    row ∙ absent ∙ sym (ap (λ (l : List StoredLog). row_of log_name l c.args.name.now) c.in_ok-push.ensures.items ∙ row_behind log_name c.args.logs.now.items _ c.args.name.now absent c.in_ok-its.ensures.same)
