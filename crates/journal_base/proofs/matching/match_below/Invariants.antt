use Rattle.std.proofs.Common.{◌+◌, ◌-◌, ◌^◌, ◌≤◌, min}
use Rattle.std.specs.Fn.{FnReturnsAt}
use Rattle.journal_base.specs.Items.{items_of}
use Rattle.journal_base.specs.Matches.{NoneMatches}
use Rattle.volume_base.proofs.ReadLemmas.{OnlyRead}
use Rattle.journal_base.proofs.matching.match_below.Given as goal

abbrev pub invariant-loop-end : goal.invariant-loop-end
invariant-loop-end g l = record {
  high : l.end ≤ l.top;
  low : min l.start l.top ≤ l.end;
  so_far : OnlyRead g.V.Volume.tells (g.V.Volume.state l.initial.vol) (g.V.Volume.state l.vol);
  none : g.V.Volume.tells → NoneMatches (items_of g.J.Item.Spelled.spelling g.J.Item.Read.admits (g.J.Contiguous.view l.journal) (g.V.Volume.state l.initial.vol)) (FnReturnsAt g.P.Fn l.predicate) l.end l.top;
  reads : (g.V.Volume.state l.vol).reads + l.end ≤ (g.V.Volume.state l.initial.vol).reads + l.top;
  counted : min ((g.V.Volume.state l.initial.vol).reads + (l.top - l.end)) (2 ^ 64 - 1) ≤ (g.V.Volume.state l.vol).reads;
}

abbrev pub decreases-loop-end : goal.decreases-loop-end
decreases-loop-end g l = l.end
