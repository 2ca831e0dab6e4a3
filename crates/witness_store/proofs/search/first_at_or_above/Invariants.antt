use Rattle.std.proofs.Common.{◌-◌, ◌≤◌}
use Rattle.volume_base.proofs.ReadLemmas.{OnlyRead}
use Rattle.witness_store.specs.Searched.{IsBefore, IsHere}
use Rattle.witness_store.specs.Witnesses.{witnesses_of}
use Rattle.witness_store.proofs.SearchLemmas.{Halved}
use Rattle.witness_store.proofs.search.first_at_or_above.Given as goal

abbrev pub invariant-loop-low : goal.invariant-loop-low
invariant-loop-low g l =
    let items = witnesses_of {F = g.row.F.Denot} g.D.Spelled.spelling (g.D.Read.admits tt) (g.R.Witnesses.seen l.reader) (g.V.Volume.state l.initial.vol) in
    record {
      low : l.start ≤ l.low;
      between : l.start ≤ l.end → l.low ≤ l.high;
      high : l.high ≤ l.end;
      so_far : OnlyRead g.V.Volume.tells (g.V.Volume.state l.initial.vol) (g.V.Volume.state l.vol);
      before : g.V.Volume.tells → IsBefore items l.start l.low l.size l.before;
      here : g.V.Volume.tells → IsHere items l.end l.high l.size l.here;
      few : Halved (l.end - l.start) (l.high - l.low) (g.V.Volume.state l.initial.vol) (g.V.Volume.state l.vol);
    }

abbrev pub decreases-loop-low : goal.decreases-loop-low
decreases-loop-low g l = l.high - l.low
