use Rattle.std.proofs.Common.{◌≡◌, sym, ap, subst, arith}
use Rattle.std.specs.Prelude.{IfOk}
use Rattle.volume_base.specs.Log.{Log, IsItemAt, end_of, no_log}
use Rattle.memory_volume.specs.Tables.{log_name, log_of, stored_log}
use Rattle.memory_volume.proofs.TableLemmas.{value_here, value_absent}
use Rattle.memory_volume.proofs.ReadLemmas.{position_is}
use Rattle.memory_volume.proofs.table.read_item.Goals as goal

pub returns-then-row-logs-clause-out_of_range : goal.returns-then-row-logs-clause-out_of_range
returns-then-row-logs-clause-out_of_range c p is =
    let absent = value_absent log_name log_of no_log c.args.logs.now c.args.name.now (omega (arith, c.log_row-row.ensures.row, c.if-row-logs.true)) in
    (position_is _ c.args.position p is, omega (arith, ap end_of absent))

here : (c : goal.After-item_of) → stored_log c.args.logs.now c.args.name.now ≡ log_of c.index-logs-row.result
here c = value_here log_name log_of no_log c.args.logs.now c.args.name.now c.log_row-row.result c.index-logs-row.result c.log_row-row.ensures.row (omega arith) c.index-logs-row.is

pub returns-clause-item : goal.returns-clause-item
returns-clause-item c = subst (λ (l : Log). IfOk c.item_of.result (λ item. IsItemAt l c.args.position item)) (sym (here c)) c.item_of.ensures.item

pub returns-clause-pruned : goal.returns-clause-pruned
returns-clause-pruned c p is = let was = c.item_of.ensures.pruned p is in (was.0, omega (arith, was.1, ap (λ (l : Log). l.start) (here c)))

pub returns-clause-out_of_range : goal.returns-clause-out_of_range
returns-clause-out_of_range c p is = let was = c.item_of.ensures.out_of_range p is in (was.0, omega (arith, was.1, ap end_of (here c)))
