use Rattle.std.proofs.Common.{◌≡◌, ℕ, ◌+◌, ◌-◌, ◌≤◌, List, Some, length, map, take}
use Rattle.std.specs.Prelude.{slice_get}
use Rattle.tree_shape.specs.Slow.{node_of}
use Rattle.tree_core.specs.Hashed.{AreHashed}
use Rattle.tree_core.specs.Pruned.{made_from, peaks_at}
use Rattle.tree_core.proofs.growth.push_parents.Given as goal

abbrev pub invariant-loop-start : goal.invariant-loop-start
invariant-loop-start g l = let s = g.F.Family.shape in let h = g.H.Hasher.hash in let b = l.mark.leaves in record {
  counted : length l.since.items ≡ length (made_from s b l.later) + 1 + l.i;
  parents : l.i ≤ length (s.parents (b + l.later));
  low : l.i ≤ 63;
  told : (leaves : List _) → l.mark.peaks.items ≡ peaks_at s h leaves b → l.fn.since.items ≡ map (node_of s h leaves) (take (length l.fn.since.items) (made_from s b (l.later + 1)))
      → l.since.items ≡ map (node_of s h leaves) (take (length l.since.items) (made_from s b (l.later + 1)));
  front : (i : ℕ) (d : _) → slice_get l.fn.since.items i ≡ Some d → slice_get l.since.items i ≡ Some d;
  hashed : AreHashed s h b (l.later + 1) l.mark.peaks.items l.fn.since.items → AreHashed s h b (l.later + 1) l.mark.peaks.items l.since.items;
}

abbrev pub decreases-loop-start : goal.decreases-loop-start
decreases-loop-start g l = 64 - l.i
