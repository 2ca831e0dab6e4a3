use Rattle.std.proofs.Common.{arith}
use Rattle.tree_core.proofs.MemLemmas.{next_within}
use Rattle.tables.proofs.shapes.print_made.Goals as goal

pub position-requires : goal.position-requires
position-requires g c =
    let w = next_within g.F.Family.shape c.args.n c.loop-i.i c.in-Some.start c.in-Some.height g.met.F.Family.lawful c.in-Some.ensures.value in
    omega (arith, w, c.requires)
