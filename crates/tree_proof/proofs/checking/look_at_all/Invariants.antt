use Rattle.std.proofs.Common.{◌≡◌, ◌-◌, ℕ, ◌<◌, length, get_or}
use Rattle.tree_proof.proofs.checking.look_at_all.Given as goal

abbrev pub decreases-loop-i : goal.decreases-loop-i
decreases-loop-i g l = length l.digests - l.i

-- each of the digests before this one
abbrev pub invariant-loop-i : goal.invariant-loop-i
invariant-loop-i g l = (j : ℕ) (d : g.row.D.Denot) → j < l.i → length (g.D.Digest.bytes (get_or l.digests j d)) ≡ g.D.FixedSize.width
