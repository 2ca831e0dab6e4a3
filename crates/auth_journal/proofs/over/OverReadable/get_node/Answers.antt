use Rattle.std.proofs.Common.{arith}
use Rattle.auth_journal.proofs.OverLemmas.{over_past}
use Rattle.auth_journal.proofs.over.OverReadable.get_node.Goals as goal

pub returns-then-place-as_u64 : goal.returns-then-place-as_u64
returns-then-place-as_u64 g c =
    let s = g.F.Family.shape in
    over_past s c.args.self.now.batch.now c.args.self.now.base.now c.args.pos c.leaves-sound.ensures.sound
    (omega (arith, c.if-place-as_u64.true, c.as_u64.ensures, c.size.ensures.size, c.as_u64-place.ensures))
