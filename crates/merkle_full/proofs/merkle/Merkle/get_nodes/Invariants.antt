use Rattle.std.proofs.Common.{◌≡◌, ◌≤◌, ◌+◌, Some, length, map, take}
use Rattle.volume_base.specs.Moments.{present}
use Rattle.volume_base.proofs.ReadLemmas.{OnlyRead}
use Rattle.merkle_full.specs.Full.{IsHeld, told_at}
use Rattle.merkle_full.proofs.merkle.Merkle.get_nodes.Given as goal

abbrev pub invariant-loop-i : goal.invariant-loop-i
invariant-loop-i g l = record {
  so_far : OnlyRead g.V.Volume.tells (g.V.Volume.state l.initial.vol) (g.V.Volume.state l.vol);
  count : (g.V.Volume.state l.vol).reads ≤ (g.V.Volume.state l.initial.vol).reads + l.i;
  counted : length l.nodes.items ≡ l.i;
  nodes : g.V.Volume.tells → IsHeld g.F.Family.shape g.D.Spelled.spelling (g.D.Read.admits tt) l.self (present (g.V.Volume.state l.initial.vol)) → map Some l.nodes.items ≡ map (told_at (g.D.Read.reads tt) l.self (present (g.V.Volume.state l.initial.vol))) (take l.i l.positions);
}
