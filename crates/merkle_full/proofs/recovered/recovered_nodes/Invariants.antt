use Rattle.std.proofs.Common.{◌≡◌, ◌<◌, ℕ, List, Some, length}
use Rattle.std.specs.Prelude.{slice_get}
use Rattle.tree_shape.specs.Hashing.{Hashing}
use Rattle.tree_shape.specs.Slow.{nodes}
use Rattle.tree_store.specs.Stored.{TreeStands}
use Rattle.volume_base.proofs.ReadLemmas.{OnlyRead}
use Rattle.journal_base.specs.View.{IsWithin}
use Rattle.merkle_full.specs.Recovering.{source_of, IsRecovered}
use Rattle.merkle_full.proofs.recovered.recovered_nodes.Given as goal

abbrev pub invariant-loop-i : goal.invariant-loop-i
invariant-loop-i g l = record {
  so_far : OnlyRead g.V.Volume.tells (g.V.Volume.state l.initial.vol) (g.V.Volume.state l.vol);
  counted : length l.found.items ≡ l.i;
  list : g.V.Volume.tells → (h : Hashing _) (all : List _) (durable top : ℕ) → TreeStands g.F.Family.shape h g.D.Spelled.spelling all durable top ((g.V.Volume.state l.initial.vol).log (g.R.BackingRecovery.view l.log).name) l.map →
      (i p : ℕ) (d : _) → slice_get l.positions i ≡ Some p → slice_get l.found.items i ≡ Some d → slice_get (nodes g.F.Family.shape h all) p ≡ Some d;
  each : (i p : ℕ) (d : _) → slice_get l.positions i ≡ Some p → slice_get l.found.items i ≡ Some d →
      IsRecovered (g.V.Volume.tells × IsWithin (g.R.BackingRecovery.view l.log) (g.V.Volume.state l.initial.vol)) (source_of g.D.Spelled.spelling g.D.Read.admits l.map (g.R.BackingRecovery.view l.log) (g.V.Volume.state l.initial.vol)) p d;
  recovered : (i p : ℕ) → i < l.i → slice_get l.positions i ≡ Some p →
      (d : g.row.D.Denot) × IsRecovered (g.V.Volume.tells × IsWithin (g.R.BackingRecovery.view l.log) (g.V.Volume.state l.initial.vol)) (source_of g.D.Spelled.spelling g.D.Read.admits l.map (g.R.BackingRecovery.view l.log) (g.V.Volume.state l.initial.vol)) p d;
}
