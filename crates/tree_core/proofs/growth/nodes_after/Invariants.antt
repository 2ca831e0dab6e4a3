use Rattle.std.proofs.Common.{◌≡◌, ℕ, ◌<◌, List, Some, length}
use Rattle.std.specs.Prelude.{slice_get}
use Rattle.tree_core.specs.Hashed.{AreHashed}
use Rattle.tree_core.specs.Pruned.{made_from, peaks_at, nodes_from, Continues}
use Rattle.tree_core.proofs.growth.nodes_after.Given as goal

abbrev pub invariant-loop-i : goal.invariant-loop-i
invariant-loop-i g l = let s = g.F.Family.shape in let h = g.H.Hasher.hash in let b = l.mark.leaves in record {
  counted : length l.since.items ≡ length (made_from s b l.i);
  told : (all : List _) → l.mark.peaks.items ≡ peaks_at s h all b → Continues all b l.digests → l.since.items ≡ nodes_from s h all b l.i;
  leaves : (i : ℕ) (d : _) → i < l.i → slice_get l.digests i ≡ Some d → slice_get l.since.items (length (made_from s b i)) ≡ Some d;
  hashed : AreHashed s h b l.i l.mark.peaks.items l.since.items;
}
