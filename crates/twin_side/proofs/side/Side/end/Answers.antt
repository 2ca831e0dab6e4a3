use Rattle.std.proofs.Common.{set, refl, sym, ◌∙◌, ap, arith}
use Rattle.std.proofs.lemmas.List.{set-set}
use Rattle.chain_core.specs.declared.bounds.Bounds.{Bounds}
use Rattle.tree_shape.specs.declared.mmr.Mmr.{Mmr}
use Rattle.tree_shape.specs.declared.sha256.Sha256Digest.{Sha256Digest}
use Rattle.std.specs.Vec.{with_item}
use Rattle.twin_batches.specs.declared.numbers.Batch.TheVariants.{Sealed}
use Rattle.twin_batches.specs.declared.numbers.Holding.{Holding}
use Rattle.twin_batches.specs.declared.numbers.Numbers.{Numbers}
use Rattle.twin_batches.specs.StateOf.{same_lists}
use Rattle.twin_batches.proofs.Matching.{read_at, unsealed_there}
use Rattle.twin_batches.proofs.LeftBatches.{unsealed_lost}
use Rattle.twin_batches.proofs.Handlers.{lost_shape, lost_state}
use Rattle.twin_batches.proofs.Sealing.{parent_lives, made_alive, made_item, why_refused, why_memory, ended_meets, sealed_shape, sealed_meets, lost_meets}
use Rattle.twin_side.proofs.LostSeals.{refusal_loses}
use Rattle.twin_side.proofs.side.Side.end.Goals as goal

pub seal-requires-clause-parent : goal.seal-requires-clause-parent
seal-requires-clause-parent g c =
    let n = c.args.self.now.numbers in
    let u = c.in-Unsealed.batch in
    let e = read_at n.batches.items c.args.b c.index_mut.result.now c.requires.there c.index_mut.ensures.value ∙ sym c.in-Unsealed.ensures.value in
    parent_lives g.D.Database.kind n c.args.b u e c.requires.shaped

pub seal-requires-clause-room : goal.seal-requires-clause-room
seal-requires-clause-room g c = omega (arith, c.requires.room.drawn, c.requires.room.within)

pub item-requires : goal.item-requires
item-requires g c =
    let made = c.in-Ok.ensures.inserted in
    made_alive c.args.self.now.numbers.pool c.seal.new.pool (g.D.Database.kind.parent c.in-Unsealed.batch) _ made.1 c.in-Ok.id c.in-Ok.ensures.number

pub returns-in-Ok-clause-ok : goal.returns-in-Ok-clause-ok
returns-in-Ok-clause-ok g c =
    let k = g.D.Database.kind in
    let n = c.args.self.now.numbers in
    let b = c.args.b in
    let u = c.in-Unsealed.batch in
    let e = read_at n.batches.items b c.index_mut.result.now c.requires.there c.index_mut.ensures.value ∙ sym c.in-Unsealed.ensures.value in
    let made = c.in-Ok.ensures.inserted in
    let number = c.in-Ok.ensures.number in
    let j : Holding = record { id = c.in-Ok.id; holds = 1 } in
    let item = made_item n.pool c.seal.new.pool (k.parent u) _ made.1 c.in-Ok.id number c.item.result.now c.item.ensures in
    let bounds = c.bounds.ensures ∙ ap k.bounds item in
    let new : Numbers g.row.D-Sealed.Denot g.row.D-Unsealed.Denot = record { batches = with_item (with_item n.batches b c.replace.new.dest) b (Sealed j); pool = c.seal.new.pool; taken = n.taken } in
    λ image.
    record {
      shaped = sealed_shape k n b u e c.requires.shaped c.requires.room new refl made.0 j number refl (rw set-set refl) made.1;
      follows = λ s told is.
          let w = unsealed_there (same_lists k) n.batches.items n.pool s.batches is.batches b u e in
          ended_meets k c.args.self.now.limit b c.args.floor c.args.metadata s w.0 w.1 c.requires.short image c.args.self.now.db new _
          (sealed_meets k n b u e image c.args.self.now.db s told is w.0 w.1 c.args.metadata c.args.floor made.0 made.2 made.3 new j _ _ number refl (rw set-set refl) made.1
          (c.as_u64.ensures ∙ ap (λ (d : Bounds Mmr Sha256Digest). d.tip.size) bounds)
          (ap (λ (d : Bounds Mmr Sha256Digest). d.tip.root) bounds));
    }

pub returns-in-Some-clause-ok : goal.returns-in-Some-clause-ok
returns-in-Some-clause-ok g c =
    let k = g.D.Database.kind in
    let n = c.args.self.now.numbers in
    let b = c.args.b in
    let u = c.in-Unsealed.batch in
    let e = read_at n.batches.items b c.index_mut.result.now c.requires.there c.index_mut.ensures.value ∙ sym c.in-Unsealed.ensures.value in
    let db = c.args.self.now.db in
    let why = why_refused k n.pool u db c.args.floor c.in-Err.error c.in-Some.refusal c.in-Err.ensures.refused (sym c.in-Some.ensures) in
    let new : Numbers g.row.D-Sealed.Denot g.row.D-Unsealed.Denot = record { batches = with_item n.batches b c.replace.new.dest; pool = c.seal.new.pool; taken = n.taken } in
    let items = ap (set n.batches.items b) c.replace.ensures.after in
    λ image.
    record {
      shaped = lost_shape k db n c.requires.shaped new refl b u e items c.in-Err.ensures.released;
      follows = λ s told is.
          let w = unsealed_there (same_lists k) n.batches.items n.pool s.batches is.batches b u e in
          ended_meets k c.args.self.now.limit b c.args.floor c.args.metadata s w.0 w.1 c.requires.short image db new _
          (lost_meets k n b u e image db s told is w.0 w.1 c.args.metadata c.args.floor new c.in-Some.refusal why (lost_state k db n c.requires.shaped new refl b u e items c.in-Err.ensures.released image s is));
    }

pub returns-in-Some-clause-refused : goal.returns-in-Some-clause-refused
returns-in-Some-clause-refused g c = λ why is.
    let n = c.args.self.now.numbers in
    let b = c.args.b in
    unsealed_lost g.D.Database.kind b n _ c.in-Some.refusal why
    (refusal_loses c.in-Err.error c.in-Some.refusal (sym c.in-Some.ensures)) is (record {
      batch = c.in-Unsealed.batch;
      was = read_at n.batches.items b c.index_mut.result.now c.requires.there c.index_mut.ensures.value
          ∙ sym c.in-Unsealed.ensures.value;
      gone = ap (set n.batches.items b) c.replace.ensures.after;
      released = c.in-Err.ensures.released;
    })

pub returns-in-None-clause-memory : goal.returns-in-None-clause-memory
returns-in-None-clause-memory g c =
    why_memory g.D.Database.kind c.args.self.now.numbers.pool c.in-Unsealed.batch c.args.self.now.db c.args.floor c.in-Err.error c.in-Err.ensures.refused (sym c.in-None.ensures)
