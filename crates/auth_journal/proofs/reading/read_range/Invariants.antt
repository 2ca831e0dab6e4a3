use Rattle.std.proofs.Common.{◌≡◌, ◌-◌, ◌≤◌, max, List, length, take, drop}
use Rattle.journal_base.specs.Items.{items_of, Spells}
use Rattle.journal_base.specs.Reads.{AreItemsAt}
use Rattle.journal_base.specs.View.{log_of}
use Rattle.volume_base.proofs.ReadLemmas.{OnlyRead}
use Rattle.auth_journal.specs.Reading.{positions, AreAdmitted}
use Rattle.auth_journal.proofs.reading.read_range.Given as goal

abbrev pub invariant-loop-position : goal.invariant-loop-position
invariant-loop-position g l =
    let view = g.C.Contiguous.view l.journal in
    let old = g.V.Volume.state l.initial.vol in
    record {
      so_far : OnlyRead g.V.Volume.tells old (g.V.Volume.state l.vol);
      high : l.position ≤ max l.from l.to;
      counted : length l.items.items ≡ l.position - l.from;
      items : g.V.Volume.tells → AreItemsAt (items_of g.C.Item.Spelled.spelling g.C.Item.Read.admits view old) (positions l.from l.position) l.items.items;
      listed : g.V.Volume.tells → (list : List g.row.C-Item.Denot) → Spells g.C.Item.Spelled.spelling list (log_of view old) → (log_of view old).start ≤ l.from → l.to ≤ length list →
          AreAdmitted (g.C.Item.Read.admits view.codec) list l.from l.to → l.items.items ≡ take (l.position - l.from) (drop l.from list);
    }
