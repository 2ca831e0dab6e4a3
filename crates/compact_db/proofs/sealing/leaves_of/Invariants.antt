use Rattle.std.proofs.Common.{◌≡◌, ◌+◌, ◌++◌, drop}
use Rattle.log_model.specs.Operations.{leaves_from}
use Rattle.compact_db.proofs.sealing.leaves_of.Given as goal

abbrev pub invariant-loop-i : goal.invariant-loop-i
invariant-loop-i g l = let m = g.O.Logged.meaning in let s = g.F.Family.shape in let h = g.H.Hasher.hash in
    l.leaves.items ++ leaves_from s h m (l.first + l.i) (drop l.i l.operations) ≡ leaves_from s h m l.first l.operations
