use Rattle.std.proofs.Common.{◌≡◌, length, refl, sym, ◌∙◌, ap, arith}
use Rattle.command_text.specs.declared.command.Answer.TheVariants as answer
use Rattle.log_model.specs.declared.refusal.Refusal.TheVariants.{NoBatch}
use Rattle.list_machine.specs.Step.{begin}
use Rattle.twin_batches.specs.StateOf.{same_lists, any_lists, AnyState}
use Rattle.twin_batches.specs.declared.numbers.Numbers.{Numbers}
use Rattle.twin_batches.proofs.Handlers.{begin_unheld, held_there, held_alive, unheld_there, stays, begun_here, begun_on_batch}
use Rattle.twin_side.proofs.side.Side.begin.Goals as goal

pub returns-in_default-clause-ok : goal.returns-in_default-clause-ok
returns-in_default-clause-ok g c =
    let made = c.in_ok-batch.ensures in
    let n = c.args.self.now.numbers in
    let new : Numbers g.row.D-Sealed.Denot g.row.D-Unsealed.Denot = record { batches = c.push.new.self; pool = n.pool; taken = n.taken } in
    let count : c.len-number.result ≡ length n.batches.items = omega (arith, c.len-number.ensures) in
    rw (c.in_default.is, count)
    (begun_here g.D.Database.kind c.args.self.now.db n c.requires.shaped new refl c.requires.room c.in_ok-batch.batch c.in_ok-push.ensures.items made.pending made.parent refl made.list made.marks)

pub returns-in_default-held-clause-ok : goal.returns-in_default-held-clause-ok
returns-in_default-held-clause-ok g c =
    let k = g.D.Database.kind in
    let n = c.args.self.now.numbers in
    let p = c.in-Some.p in
    stays k c.args.self.now.db n c.requires.shaped _ refl refl refl AnyState _ (answer.Refused (NoBatch p)) (λ image s any is.
    ap (begin s) c.in-Some.is ∙ begin_unheld s p _ (unheld_there (same_lists k) n.batches.items n.pool s.batches is.batches p (sym c.in_default-held.ensures.held)))

pub child-requires-clause-alive : goal.child-requires-clause-alive
child-requires-clause-alive g c =
    let k = g.D.Database.kind in
    let n = c.args.self.now.numbers in
    let sh = c.requires.shaped in
    let p = c.in-Some.p in
    let j = c.in-Some-held.held in
    held_alive (any_lists k) n.batches.items n.pool sh.all sh.batches p j (held_there (any_lists k) n.batches.items n.pool sh.all sh.batches p j (sym c.in-Some-held.ensures.held))

pub child-requires-clause-room : goal.child-requires-clause-room
child-requires-clause-room g c = let r = c.requires.room.holds c.in-Some-held.held.id in omega (arith, r, c.requires.room.within)

pub returns-clause-ok : goal.returns-clause-ok
returns-clause-ok g c =
    let made = c.in_ok-batch-2.ensures in
    let n = c.args.self.now.numbers in
    let new : Numbers g.row.D-Sealed.Denot g.row.D-Unsealed.Denot = record { batches = c.push-2.new.self; pool = c.child.new.pool; taken = n.taken } in
    let count : c.len-number.result ≡ length n.batches.items = omega (arith, c.len-number.ensures) in
    rw (c.in-Some.is, count)
    (begun_on_batch g.D.Database.kind c.args.self.now.db n c.requires.shaped new refl c.requires.room c.in_ok-batch-2.batch c.in_ok-push-2.ensures.items made.pending
    c.in-Some.p c.in-Some-held.held (sym c.in-Some-held.ensures.held) made.parent made.held made.list made.marks)
