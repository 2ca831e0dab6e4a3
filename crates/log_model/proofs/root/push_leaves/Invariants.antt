use Rattle.std.proofs.Common.{◌≡◌, ◌+◌, ◌++◌, drop, take, length}
use Rattle.log_model.specs.Operations.{leaves_from}
use Rattle.log_model.proofs.root.push_leaves.Given as goal

abbrev pub invariant-loop-i : goal.invariant-loop-i
invariant-loop-i g l = let m = g.O.Logged.meaning in let s = g.F.Family.shape in let h = g.H.Hasher.hash in let n = length l.initial.leaves.items in record {
  told : l.leaves.items ++ leaves_from s h m (n + l.i) (drop l.i l.operations) ≡ l.initial.leaves.items ++ leaves_from s h m n l.operations;
  front : take n l.leaves.items ≡ l.initial.leaves.items;
  count : length l.leaves.items ≡ n + l.i;
}
