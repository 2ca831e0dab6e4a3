use Rattle.std.proofs.Common.{◌≡◌, ℕ, ◌+◌, length, map, drop}
use Rattle.std.specs.BTreeMap.{get}
use Rattle.std.specs.Ordering.{nat_cmp}
use Rattle.tree_proof.specs.Cover.{cover, cover_over}
use Rattle.tree_verification.specs.Told.{in_tree, IsHashed}
use Rattle.tree_verification.proofs.ToldLemmas.{IsLeft}
use Rattle.tree_verification.proofs.told.tell_peaks.Given as goal

abbrev pub invariant-loop-i : goal.invariant-loop-i
invariant-loop-i g l =
    let s = g.F.Family.shape in
    let h = g.H.Hasher.hash in
    let met = g.K.Wanted.met l.known in
    let leaf_of = g.K.Known.leaf_of l.known in
    record {
      enough : l.at + length (cover_over met (drop l.i l.peaks.items)) ≡ length l.digests;
      told : (tree : ℕ → ℕ → g.row.H-Digest.Denot) → IsHashed s h met leaf_of tree → l.digests ≡ map (in_tree tree) (cover s met l.leaves)
          → IsLeft s h met leaf_of tree l.leaves (drop l.i l.peaks.items) (get nat_cmp l.nodes) (drop l.at l.digests);
    }
