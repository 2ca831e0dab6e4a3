use Rattle.std.proofs.Common.{◌<◌, ◌∙◌, arith}
use Rattle.twin_batches.proofs.Matching.{read_at}
use Rattle.twin_batches.proofs.Handlers.{let_go_follows}
use Rattle.twin_side.proofs.side.Side.release.Goals as goal

pub returns-else-held-eq0-clause-ok : goal.returns-else-held-eq0-clause-ok
returns-else-held-eq0-clause-ok g c =
    let n = c.args.self.now.numbers in
    let j = c.in-Sealed.holding in
    let e = read_at n.batches.items c.args.b c.index.result.now (omega arith) c.index.ensures ∙ c.in-Sealed.is in
    let some : 0 < j.holds = (let test = c.if-held-eq0.false in omega (arith, test)) in
    let_go_follows g.D.Database.kind c.args.self.now.db n c.requires c.let_go.new.self c.let_go.ensures.taken c.args.b j e some c.let_go.ensures.batches c.let_go.ensures.pool
