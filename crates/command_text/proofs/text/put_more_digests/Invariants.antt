use Rattle.std.proofs.Common.{◌≤◌, take}
use Rattle.std.specs.List.{flat_map}
use Rattle.std.specs.Prelude.{codes}
use Rattle.line_text.specs.Text.{titled}
use Rattle.line_text.specs.Pending.{IsSent}
use Rattle.command_text.proofs.text.put_more_digests.Given as goal

abbrev pub invariant-loop-digest : goal.invariant-loop-digest
invariant-loop-digest g l = record {
  sent : IsSent (g.O.Sink.written l.fn.out) l.fn.piece (g.O.Sink.written l.out) l.piece (flat_map (titled (codes ",")) (take l.digest-index l.digests));
  later : g.O.Sink.faults l.fn.out ≤ g.O.Sink.faults l.out;
}
