use Rattle.std.proofs.Common.{◌≡◌, ◌≤◌, ◌++◌, Some, List, length, take}
use Rattle.std.specs.Prelude.{IsSome}
use Rattle.std.specs.List.{AllByRecursion}
use Rattle.volume_base.specs.Moments.{present}
use Rattle.volume_base.proofs.ReadLemmas.{OnlyRead}
use Rattle.journal_base.specs.Items.{items_of}
use Rattle.auth_journal.specs.Batched.{IsSealedOfItems}
use Rattle.log_model.specs.Reads.{value_at}
use Rattle.chain_core.specs.Reached.{linked_item}
use Rattle.keyless_db.specs.Batches.{MerkleizedView, IsUnmerkleizedOf}
use Rattle.keyless_db.specs.DbView.{IsHeldFor}
use Rattle.keyless_db.specs.Reading.{IsReadable, IsReadBelow, chain_start, kept_over, lost, pending_item}
use Rattle.keyless_db.proofs.KeptReadLemmas.{EachSoFar, KeptSoFar}
use Rattle.keyless_db.proofs.SeveralLemmas.{ReadSoFar}
use Rattle.keyless_db.proofs.batch.UnmerkleizedBatch.own_values.Given as goal

abbrev pub invariant-loop-i : goal.invariant-loop-i
invariant-loop-i g l =
    let old = g.V.Volume.state l.initial.vol in
    let s = g.F.Family.shape in
    let h = g.H.Hasher.hash in
    let m = g.O.Logged.meaning in
    record {
      so_far : OnlyRead g.V.Volume.tells old (g.V.Volume.state l.vol);
      within : l.i ≤ length l.locs;
      valued : EachSoFar (λ n v. IsReadBelow m g.V.Volume.tells (items_of g.O.Spelled.spelling g.O.Read.admits l.db.journal.items old) l.db.state.size (pending_item l.pool l.self n) n v) l.locs l.i l.values.items;
      kept : KeptSoFar m (pending_item l.pool l.self) l.locs l.i l.values.items;
      unread : AllByRecursion (λ k. IsSome (pending_item l.pool l.self k)) l.locs → l.vol ≡ l.initial.vol;
      listed : g.V.Volume.tells → (ops list : List g.row.O.Denot) →
          IsHeldFor s h m g.H.Digest.Spelled.spelling (g.H.Digest.Read.admits tt) g.O.Spelled.spelling ops l.db (present old) →
          AllByRecursion (λ k. IsReadable (g.O.Read.admits l.db.journal.items.codec) ops (pending_item l.pool l.self k) k) l.locs → ops ≡ take (length ops) list →
          IsUnmerkleizedOf s h m g.O.Spelled.spelling list l.self →
          ((p : MerkleizedView g.row.F.Denot g.row.H-Digest.Denot g.row.O.Denot) → linked_item l.pool l.self.parent ≡ Some p → IsSealedOfItems s h g.O.Spelled.spelling list p.tree) →
          ReadSoFar (lost (kept_over (chain_start l.pool l.self) l.db)) (value_at m (list ++ l.self.tree.items)) l.locs l.i l.values.items;
    }
