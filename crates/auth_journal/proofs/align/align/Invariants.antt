use Rattle.std.proofs.Common.{◌-◌, ◌≤◌, max, List, length, take}
use Rattle.volume_base.specs.Moments.{Image}
use Rattle.volume_base.proofs.ReadLemmas.{OnlyRead}
use Rattle.journal_base.specs.Items.{items_of, Spells}
use Rattle.journal_base.specs.Reads.{AreItemsAt}
use Rattle.journal_base.specs.View.{log_of}
use Rattle.tree_core.specs.Applied.{IsLonger}
use Rattle.merkle_full.specs.Full.{IsBeside}
use Rattle.merkle_full.specs.Lists.{IsFullOf}
use Rattle.auth_journal.specs.Joined.{leaves_of}
use Rattle.auth_journal.specs.Reading.{positions}
use Rattle.auth_journal.proofs.align.align.Given as goal

abbrev pub invariant-loop-leaves : goal.invariant-loop-leaves
invariant-loop-leaves g l =
    let s = g.F.Family.shape in
    let h = g.H.Hasher.hash in
    let digest = g.H.Digest.Spelled.spelling in
    let admits = g.H.Digest.Read.admits tt in
    let spelling = g.C.Item.Spelled.spelling in
    let view = g.C.Contiguous.view l.journal in
    let old = g.V.Volume.state l.initial.vol in
    let first = l.fn.merkle in
    record {
      so_far : OnlyRead g.V.Volume.tells old (g.V.Volume.state l.vol);
      low : first.tree.leaves ≤ l.leaves;
      high : l.leaves ≤ max first.tree.leaves l.end;
      beside : IsBeside first l.merkle;
      longer : IsLonger s l.leaves first.tree l.merkle.tree;
      readable : g.V.Volume.tells → (xs : List g.row.C-Item.Denot) × AreItemsAt (items_of spelling g.C.Item.Read.admits view old) (positions first.tree.leaves l.leaves) xs;
      full : g.V.Volume.tells → (list : List g.row.C-Item.Denot) (image : Image) → Spells spelling list (log_of view old) → l.end ≤ length list →
          IsFullOf s h digest admits (leaves_of s h spelling (take first.tree.leaves list)) first image → IsFullOf s h digest admits (leaves_of s h spelling (take l.leaves list)) l.merkle image;
    }

abbrev pub decreases-loop-leaves : goal.decreases-loop-leaves
decreases-loop-leaves g l = l.end - l.leaves
