use Rattle.std.proofs.Common.{◌≡◌, ◌≤◌, Some, None, List, length}
use Rattle.std.specs.Prelude.{slice_get}
use Rattle.std.specs.List.{AllByRecursion}
use Rattle.volume_base.specs.Moments.{present}
use Rattle.volume_base.proofs.ReadLemmas.{OnlyRead}
use Rattle.journal_base.specs.Items.{items_of}
use Rattle.log_model.specs.Reads.{value_at}
use Rattle.keyless_db.specs.DbView.{IsHeldFor}
use Rattle.keyless_db.specs.Reading.{IsReadAt, below_start, locations_refusal}
use Rattle.keyless_db.proofs.KeptReadLemmas.{EachSoFar}
use Rattle.keyless_db.proofs.SeveralLemmas.{ReadSoFar}
use Rattle.keyless_db.proofs.database.Keyless.values.Given as goal

abbrev pub invariant-loop-i : goal.invariant-loop-i
invariant-loop-i g l =
    let old = g.V.Volume.state l.initial.vol in
    let m = g.O.Logged.meaning in
    record {
      so_far : OnlyRead g.V.Volume.tells old (g.V.Volume.state l.vol);
      within : l.i ≤ length l.locs;
      valued : EachSoFar (λ n v. g.V.Volume.tells → IsReadAt m (items_of g.O.Spelled.spelling g.O.Read.admits l.self.journal.items old) n v) l.locs l.i l.values.items;
      listed : g.V.Volume.tells → (ops : List g.row.O.Denot) →
          IsHeldFor g.F.Family.shape g.H.Hasher.hash m g.H.Digest.Spelled.spelling (g.H.Digest.Read.admits tt) g.O.Spelled.spelling ops l.self (present old) →
          AllByRecursion (λ k. (op : g.row.O.Denot) → slice_get ops k ≡ Some op → g.O.Read.admits l.self.journal.items.codec op) l.locs → locations_refusal (length ops) l.locs ≡ None →
          ReadSoFar (below_start l.self.journal.items.start) (value_at m ops) l.locs l.i l.values.items;
    }
