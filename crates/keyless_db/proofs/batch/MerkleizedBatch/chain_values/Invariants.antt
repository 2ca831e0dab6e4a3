use Rattle.std.proofs.Common.{◌≡◌, ◌≤◌, None, List, length, take}
use Rattle.std.specs.Prelude.{IsSome}
use Rattle.std.specs.List.{AllByRecursion}
use Rattle.volume_base.specs.Moments.{present}
use Rattle.volume_base.proofs.ReadLemmas.{OnlyRead}
use Rattle.journal_base.specs.Items.{items_of}
use Rattle.auth_journal.specs.Batched.{IsSealedOfItems}
use Rattle.auth_journal.specs.Kept.{kept_item}
use Rattle.log_model.specs.Reads.{value_at}
use Rattle.keyless_db.specs.DbView.{IsHeldFor}
use Rattle.keyless_db.specs.Reading.{IsReadable, IsReadBelow, kept_over, locations_refusal, lost}
use Rattle.keyless_db.proofs.KeptReadLemmas.{EachSoFar, KeptSoFar}
use Rattle.keyless_db.proofs.SeveralLemmas.{ReadSoFar}
use Rattle.keyless_db.proofs.batch.MerkleizedBatch.chain_values.Given as goal

abbrev pub invariant-loop-i : goal.invariant-loop-i
invariant-loop-i g l =
    let old = g.V.Volume.state l.initial.vol in
    let s = g.F.Family.shape in
    let m = g.O.Logged.meaning in
    record {
      so_far : OnlyRead g.V.Volume.tells old (g.V.Volume.state l.vol);
      within : l.i ≤ length l.locs;
      valued : EachSoFar (λ n v. IsReadBelow m g.V.Volume.tells (items_of g.O.Spelled.spelling g.O.Read.admits l.db.journal.items old) l.db.state.size (kept_item l.self.tree n) n v) l.locs l.i l.values.items;
      kept : KeptSoFar m (kept_item l.self.tree) l.locs l.i l.values.items;
      unread : AllByRecursion (λ k. IsSome (kept_item l.self.tree k)) l.locs → l.vol ≡ l.initial.vol;
      listed : g.V.Volume.tells → (ops list : List g.row.O.Denot) →
          IsHeldFor s g.H.Hasher.hash m g.D.Spelled.spelling (g.D.Read.admits tt) g.O.Spelled.spelling ops l.db (present old) →
          AllByRecursion (λ k. IsReadable (g.O.Read.admits l.db.journal.items.codec) ops (kept_item l.self.tree k) k) l.locs → ops ≡ take (length ops) list →
          IsSealedOfItems s g.H.Hasher.hash g.O.Spelled.spelling list l.self.tree → locations_refusal (length list) l.locs ≡ None →
          ReadSoFar (lost (kept_over l.self.tree.nodes.first l.db)) (value_at m list) l.locs l.i l.values.items;
    }
