use Rattle.std.proofs.Common.{◌≤◌, take}
use Rattle.std.specs.List.{flat_map}
use Rattle.std.specs.Prelude.{codes}
use Rattle.stream_base.specs.Writing.{text_then}
use Rattle.command_text.specs.Text.{bytes_text}
use Rattle.line_text.specs.Pending.{IsSent}
use Rattle.command_text.proofs.text.put_more_operations.Given as goal

abbrev pub invariant-loop-operation : goal.invariant-loop-operation
invariant-loop-operation g l = record {
  sent : IsSent (g.O.Sink.written l.fn.out) l.fn.piece (g.O.Sink.written l.out) l.piece (flat_map (λ op. text_then (codes ",") (bytes_text op)) (take l.operation-index l.operations));
  later : g.O.Sink.faults l.fn.out ≤ g.O.Sink.faults l.out;
}
