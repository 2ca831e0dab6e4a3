use Rattle.std.proofs.Common.{◌≡◌, ◌-◌, ◌^◌}
use Rattle.std.specs.Io.KnownBytes.{Keeps}
use Rattle.host_edge.proofs.sink.StdSinkSink.flush.Given as goal

abbrev pub decreases-loop-tries : goal.decreases-loop-tries
decreases-loop-tries g l = 2 ^ 64 - 1 - l.tries

abbrev pub invariant-loop-tries : goal.invariant-loop-tries
invariant-loop-tries g l = record {
  kept : Keeps (g.W.Write.contents l.fn.self.writer) (g.W.Write.contents l.self-inside.writer);
  faults : l.self-inside.faults ≡ l.fn.self.faults;
  waits : l.self-inside.waits ≡ l.fn.self.waits;
}
