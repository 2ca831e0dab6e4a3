use Rattle.std.proofs.Common.{◌≤◌, take}
use Rattle.hex.specs.Hex.{encode_lower}
use Rattle.line_text.specs.Pending.{IsSent}
use Rattle.line_text.proofs.text.put_hex.Given as goal

abbrev pub invariant-loop-byte : goal.invariant-loop-byte
invariant-loop-byte g l = record {
  sent : IsSent (g.O.Sink.written l.fn.out) l.fn.piece (g.O.Sink.written l.out) l.piece (encode_lower (take l.byte-index l.bytes));
  later : g.O.Sink.faults l.fn.out ≤ g.O.Sink.faults l.out;
}
