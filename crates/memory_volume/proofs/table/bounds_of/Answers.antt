use Rattle.std.proofs.Common.{◌≡◌, sym, ap, arith, length-drop}
use Rattle.volume_base.specs.Log.{Log, end_of, no_log}
use Rattle.memory_volume.specs.Tables.{log_name, log_of, stored_log}
use Rattle.memory_volume.proofs.TableLemmas.{value_here, value_absent}
use Rattle.memory_volume.proofs.table.bounds_of.Goals as goal

absent : (c : goal.Then-row-logs) → stored_log c.args.logs.now c.args.name.now ≡ no_log
absent c = value_absent log_name log_of no_log c.args.logs.now c.args.name.now (omega (arith, c.log_row-row.ensures.row, c.if-row-logs.true))

pub returns-then-row-logs-clause-start : goal.returns-then-row-logs-clause-start
returns-then-row-logs-clause-start c = sym (ap (λ (l : Log). l.start) (absent c))

pub returns-then-row-logs-clause-end : goal.returns-then-row-logs-clause-end
returns-then-row-logs-clause-end c = sym (ap end_of (absent c))

pub bounds-logs-row : goal.bounds-logs-row
bounds-logs-row c = omega arith

here : (c : goal.After-len) → stored_log c.args.logs.now c.args.name.now ≡ log_of c.index-logs-row.result
here c = value_here log_name log_of no_log c.args.logs.now c.args.name.now c.log_row-row.result c.index-logs-row.result c.log_row-row.ensures.row (omega arith) c.index-logs-row.is

pub returns-clause-start : goal.returns-clause-start
returns-clause-start c = sym (ap (λ (l : Log). l.start) (here c))

pub returns-clause-end : goal.returns-clause-end
returns-clause-end c = omega (arith, ap end_of (here c), length-drop c.index-logs-row.result.skipped c.index-logs-row.result.items.items)
