use Rattle.std.proofs.Common.{◌≡◌, take}
use Rattle.tree_core.specs.Batches.{leaf_count, with_digests}
use Rattle.auth_journal.specs.Batched.{leaves_from}
use Rattle.auth_journal.proofs.leaves.add_leaves.Given as goal

abbrev pub invariant-loop-i : goal.invariant-loop-i
invariant-loop-i g l =
    l.batch ≡ with_digests l.initial.batch (leaves_from g.F.Family.shape g.H.Hasher.hash (leaf_count l.initial.batch) (take l.i l.encodings))
