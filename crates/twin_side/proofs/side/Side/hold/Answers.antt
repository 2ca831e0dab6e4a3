use Rattle.std.proofs.Common.{refl, sym, arith}
use Rattle.command_text.specs.declared.command.Answer.TheVariants as answer
use Rattle.log_model.specs.declared.refusal.Refusal.TheVariants.{NoBatch}
use Rattle.twin_batches.specs.StateOf.{same_lists, any_lists, AnyState}
use Rattle.twin_batches.proofs.Handlers.{held_some, hold_unheld, held_there, held_alive, unheld_there, stays, hold_follows}
use Rattle.twin_side.proofs.side.Side.hold.Goals as goal

pub returns-in_default-clause-ok : goal.returns-in_default-clause-ok
returns-in_default-clause-ok g c =
    let k = g.D.Database.kind in
    let n = c.args.self.now.numbers in
    let b = c.args.b in
    stays k c.args.self.now.db n c.requires.shaped _ refl refl refl AnyState _ (answer.Refused (NoBatch b)) (λ image s any is. hold_unheld s b _ (unheld_there (same_lists k) n.batches.items n.pool s.batches is.batches b (sym c.in_default.ensures.held)))

pub hold-requires-clause-alive : goal.hold-requires-clause-alive
hold-requires-clause-alive g c =
    let k = g.D.Database.kind in
    let n = c.args.self.now.numbers in
    let sh = c.requires.shaped in
    let j = c.in-Some.held in
    held_alive (any_lists k) n.batches.items n.pool sh.all sh.batches c.args.b j (held_there (any_lists k) n.batches.items n.pool sh.all sh.batches c.args.b j (sym c.in-Some.ensures.held))

pub hold-requires-clause-room : goal.hold-requires-clause-room
hold-requires-clause-room g c = let r = c.requires.room.holds c.in-Some.held.id in omega (arith, r, c.requires.room.within)

pub hold-requires-clause-more : goal.hold-requires-clause-more
hold-requires-clause-more g c =
    let k = g.D.Database.kind in
    let n = c.args.self.now.numbers in
    let sh = c.requires.shaped in
    let j = c.in-Some.held in
    let t = held_there (any_lists k) n.batches.items n.pool sh.all sh.batches c.args.b j (sym c.in-Some.ensures.held) in
    let count = t.is.count in
    let r = c.requires.room.holds j.id in
    omega (arith, r, count, c.requires.room.within)

pub returns-clause-ok : goal.returns-clause-ok
returns-clause-ok g c =
    let n = c.args.self.now.numbers in
    let j = c.in-Some.held in
    let at = held_some _ j (sym c.in-Some.ensures.held) in
    hold_follows g.D.Database.kind c.args.self.now.db n c.requires.shaped _ c.hold.ensures.taken c.args.b j at.0 at.1 c.requires.room c.hold.ensures.batches c.hold.ensures.pool
