use Rattle.std.proofs.Common.{◌≤◌, [], take}
use Rattle.std.specs.List.{flat_map}
use Rattle.line_text.specs.Pending.{IsSent}
use Rattle.command_text.specs.Text.{reply_text}
use Rattle.command_text.proofs.text.write_replies.Given as goal

abbrev pub invariant-loop-reply : goal.invariant-loop-reply
invariant-loop-reply g l = record {
  sent : IsSent (g.O.Sink.written l.fn.output) [] (g.O.Sink.written l.output) l.piece (flat_map reply_text (take l.reply-index l.reply-items));
  later : g.O.Sink.faults l.fn.output ≤ g.O.Sink.faults l.output;
}
