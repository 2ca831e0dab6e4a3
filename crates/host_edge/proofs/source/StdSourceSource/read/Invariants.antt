use Rattle.std.proofs.Common.{◌≡◌, ◌-◌, ◌^◌}
use Rattle.std.specs.Io.KnownBytes.{Keeps}
use Rattle.host_edge.proofs.source.StdSourceSource.read.Given as goal

abbrev pub decreases-loop-tries : goal.decreases-loop-tries
decreases-loop-tries g l = 2 ^ 64 - 1 - l.tries

abbrev pub invariant-loop-tries : goal.invariant-loop-tries
invariant-loop-tries g l = record {
  kept : Keeps (g.R.Read.remaining l.fn.self.reader) (g.R.Read.remaining l.self-inside.reader);
  faults : l.self-inside.faults ≡ l.fn.self.faults;
}
