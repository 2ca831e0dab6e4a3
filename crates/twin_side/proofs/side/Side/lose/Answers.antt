use Rattle.std.proofs.Common.{set, refl, sym, ◌∙◌, ap}
use Rattle.std.specs.Vec.{with_item}
use Rattle.twin_batches.specs.declared.numbers.Numbers.{Numbers}
use Rattle.twin_batches.proofs.Matching.{read_at}
use Rattle.twin_batches.proofs.Handlers.{lost_shape, lost_state}
use Rattle.twin_batches.proofs.Sealing.{parent_lives}
use Rattle.twin_side.proofs.side.Side.lose.Goals as goal

pub discard-requires : goal.discard-requires
discard-requires g c =
    let n = c.args.self.now.numbers in
    let u = c.in-Unsealed.batch in
    let e = read_at n.batches.items c.args.b c.index_mut.result.now c.requires.there c.index_mut.ensures.value ∙ sym c.in-Unsealed.ensures.value in
    parent_lives g.D.Database.kind n c.args.b u e c.requires.shaped

pub returns-clause-shaped : goal.returns-clause-shaped
returns-clause-shaped g c =
    let n = c.args.self.now.numbers in
    let u = c.in-Unsealed.batch in
    let e = read_at n.batches.items c.args.b c.index_mut.result.now c.requires.there c.index_mut.ensures.value ∙ sym c.in-Unsealed.ensures.value in
    let new : Numbers g.row.D-Sealed.Denot g.row.D-Unsealed.Denot = record { batches = with_item n.batches c.args.b c.replace.new.dest; pool = c.discard.new.pool; taken = n.taken } in
    let items = ap (set n.batches.items c.args.b) c.replace.ensures.after in
    lost_shape g.D.Database.kind c.args.self.now.db n c.requires.shaped new refl c.args.b u e items c.discard.ensures

pub returns-clause-lost : goal.returns-clause-lost
returns-clause-lost g c = λ image s is.
    let n = c.args.self.now.numbers in
    let u = c.in-Unsealed.batch in
    let e = read_at n.batches.items c.args.b c.index_mut.result.now c.requires.there c.index_mut.ensures.value ∙ sym c.in-Unsealed.ensures.value in
    let new : Numbers g.row.D-Sealed.Denot g.row.D-Unsealed.Denot = record { batches = with_item n.batches c.args.b c.replace.new.dest; pool = c.discard.new.pool; taken = n.taken } in
    let items = ap (set n.batches.items c.args.b) c.replace.ensures.after in
    lost_state g.D.Database.kind c.args.self.now.db n c.requires.shaped new refl c.args.b u e items c.discard.ensures image s is
