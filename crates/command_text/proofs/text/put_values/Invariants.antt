use Rattle.std.proofs.Common.{◌≤◌, take}
use Rattle.std.specs.List.{flat_map}
use Rattle.std.specs.Prelude.{codes}
use Rattle.stream_base.specs.Writing.{text_then}
use Rattle.line_text.specs.Text.{value_text}
use Rattle.line_text.specs.Pending.{IsSent}
use Rattle.command_text.proofs.text.put_values.Given as goal

abbrev pub invariant-loop-value : goal.invariant-loop-value
invariant-loop-value g l = record {
  sent : IsSent (g.O.Sink.written l.fn.out) l.fn.piece (g.O.Sink.written l.out) l.piece (flat_map (λ v. text_then (codes " ") (value_text v)) (take l.value-index l.values));
  later : g.O.Sink.faults l.fn.out ≤ g.O.Sink.faults l.out;
}
