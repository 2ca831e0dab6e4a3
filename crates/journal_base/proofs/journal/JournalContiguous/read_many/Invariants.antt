use Rattle.std.proofs.Common.{◌+◌, ◌-◌, ◌^◌, ◌≤◌, min, take}
use Rattle.journal_base.specs.Items.{items_of}
use Rattle.journal_base.specs.View.{view_of}
use Rattle.journal_base.specs.Reads.{AreItemsAt}
use Rattle.volume_base.proofs.ReadLemmas.{OnlyRead}
use Rattle.journal_base.proofs.journal.JournalContiguous.read_many.Given as goal

abbrev pub invariant-loop-position : goal.invariant-loop-position
invariant-loop-position g l = record {
  so_far : OnlyRead g.V.Volume.tells (g.V.Volume.state l.initial.vol) (g.V.Volume.state l.vol);
  items : g.V.Volume.tells → AreItemsAt (items_of g.T.Spelled.spelling g.T.Read.admits (view_of l.self) (g.V.Volume.state l.initial.vol)) (take l.position-index l.positions) l.items.items;
  reads : (g.V.Volume.state l.vol).reads ≤ (g.V.Volume.state l.initial.vol).reads + l.position-index;
  counted : min ((g.V.Volume.state l.initial.vol).reads + l.position-index) (2 ^ 64 - 1) ≤ (g.V.Volume.state l.vol).reads;
}
