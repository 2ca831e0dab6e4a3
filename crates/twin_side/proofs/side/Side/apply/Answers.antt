use Rattle.std.proofs.Common.{true, refl, sym}
use Rattle.twin_batches.specs.StateOf.{any_lists}
use Rattle.twin_batches.proofs.Handlers.{held_there, held_alive, taken_there, apply_state, apply_fails}
use Rattle.twin_batches.proofs.Writing.{writes_ok, writes_err}
use Rattle.twin_side.proofs.SideImages.{applied_images}
use Rattle.twin_side.proofs.side.Side.apply.Goals as goal

pub apply-requires : goal.apply-requires
apply-requires g c =
    let k = g.D.Database.kind in
    let n = c.args.self.numbers in
    let sh = c.requires.shaped in
    let j = c.in-Some.held in
    held_alive (any_lists k) n.batches.items n.pool sh.all sh.batches c.args.b j (held_there (any_lists k)
    n.batches.items n.pool sh.all sh.batches c.args.b j (sym c.in-Some.ensures.held))

pub returns-in-Ok-clause-state : goal.returns-in-Ok-clause-state
returns-in-Ok-clause-state g c =
    let k = g.D.Database.kind in
    let n = c.args.self.numbers in
    let j = c.in-Some.held in
    let at = sym c.in-Some.ensures.held in
    apply_state k _ c.args.self.db n c.args.b j at true
    (taken_there k c.args.self.db n c.args.b c.requires.takes j at) refl g.V.Volume.tells _ c.in-Ok.db
    c.in-Ok.ensures.list

pub returns-in-Ok-clause-writes : goal.returns-in-Ok-clause-writes
returns-in-Ok-clause-writes g c = writes_ok _ _ _ _ _ _ c.in-Ok.ensures.writes

pub returns-in-Err-clause-errors : goal.returns-in-Err-clause-errors
returns-in-Err-clause-errors g c =
    let k = g.D.Database.kind in
    let n = c.args.self.numbers in
    let j = c.in-Some.held in
    let at = sym c.in-Some.ensures.held in
    apply_fails k _ c.args.self.db n c.args.b j at true
    (taken_there k c.args.self.db n c.args.b c.requires.takes j at) refl g.V.Volume.tells _ c.in-Err.ensures.errors

pub returns-in-Err-clause-writes : goal.returns-in-Err-clause-writes
returns-in-Err-clause-writes g c = writes_err _ _ _ _ _ c.in-Err.ensures.writes

pub returns-in-Ok-clause-images : goal.returns-in-Ok-clause-images
returns-in-Ok-clause-images g c =
    applied_images g.D.Database.kind _ _ c.args.self.db c.args.self.numbers g.V.Volume.tells c.args.b c.requires.takes
    c.in-Some.held (sym c.in-Some.ensures.held) c.in-Ok.ensures.images

pub returns-in-Err-clause-images : goal.returns-in-Err-clause-images
returns-in-Err-clause-images g c =
    applied_images g.D.Database.kind _ _ c.args.self.db c.args.self.numbers g.V.Volume.tells c.args.b c.requires.takes
    c.in-Some.held (sym c.in-Some.ensures.held) c.in-Err.ensures.images
