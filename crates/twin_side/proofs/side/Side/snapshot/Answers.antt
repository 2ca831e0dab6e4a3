use Rattle.std.proofs.Common.{◌≡◌, length, refl, arith}
use Rattle.twin_batches.specs.declared.numbers.Holding.{Holding}
use Rattle.twin_batches.specs.declared.numbers.Numbers.{Numbers}
use Rattle.twin_batches.proofs.Handlers.{snapshot_follows}
use Rattle.twin_side.proofs.side.Side.snapshot.Goals as goal

pub snapshot-requires : goal.snapshot-requires
snapshot-requires g c = omega (arith, c.requires.room.drawn, c.requires.room.within)

pub returns-clause-ok : goal.returns-clause-ok
returns-clause-ok g c =
    let made = c.in_ok-id.ensures.inserted in
    let j : Holding = record { id = c.in_ok-id.id; holds = 1 } in
    let n = c.args.self.now.numbers in
    let new : Numbers g.row.D-Sealed.Denot g.row.D-Unsealed.Denot = record { batches = c.push.new.self; pool = c.snapshot.new.pool; taken = n.taken } in
    let count : c.len-number.result ≡ length n.batches.items = omega (arith, c.len-number.ensures) in
    rw count
    (snapshot_follows g.D.Database.kind c.args.self.now.db n c.requires.shaped new refl c.requires.room made.0 j c.in_ok-id.ensures.number refl c.in_ok-push.ensures.items made.1 made.2 made.3)
