use Rattle.std.proofs.Common.{refl, sym, ◌∙◌, ap, arith}
use Rattle.command_text.specs.declared.command.Answer.TheVariants as answer
use Rattle.log_model.specs.declared.refusal.Refusal.TheVariants.{NoBatch}
use Rattle.list_machine.specs.Step.{append_to}
use Rattle.twin_batches.specs.StateOf.{same_lists, AnyState}
use Rattle.twin_batches.proofs.Matching.{read_at}
use Rattle.twin_batches.proofs.Handlers.{set_same, gone_past, entry_sealed, append_sealed, stays, append_too_long, append_no_room, append_follows}
use Rattle.twin_side.proofs.side.Side.append.Goals as goal

pub returns-then-b-len-clause-ok : goal.returns-then-b-len-clause-ok
returns-then-b-len-clause-ok g c =
    let k = g.D.Database.kind in
    let n = c.args.self.now.numbers in
    let b = c.args.b in
    stays k c.args.self.now.db n c.requires _ refl refl refl AnyState _ (answer.Refused (NoBatch b)) (λ image s any is. ap (append_to c.args.self.now.limit s b c.args.value.now) (gone_past (same_lists k) n.batches.items n.pool s.batches is.batches b (omega arith)))

pub returns-then-len-self-clause-ok : goal.returns-then-len-self-clause-ok
returns-then-len-self-clause-ok g c =
    let n = c.args.self.now.numbers in
    let b = c.args.b in
    let u = c.in-Unsealed.batch in
    let e = read_at n.batches.items b c.index_mut.result.now (omega arith) c.index_mut.ensures.value ∙ c.in-Unsealed.is in
    rw c.len-then-len-self.ensures.length
    (append_too_long g.D.Database.kind c.args.self.now.db n c.requires _ refl b u e c.args.self.now.limit c.args.value.now (set_same n.batches.items b _ e) refl (omega arith))

pub returns-then-len-self-clause-refused : goal.returns-then-len-self-clause-refused
returns-then-len-self-clause-refused g c = λ why is.
    let n = c.args.self.now.numbers in
    let e = read_at n.batches.items c.args.b c.index_mut.result.now (omega arith) c.index_mut.ensures.value ∙ c.in-Unsealed.is in
    (set_same n.batches.items c.args.b _ e, refl)

pub returns-then-size-ge-MAX_LEAVES-clause-refused : goal.returns-then-size-ge-MAX_LEAVES-clause-refused
returns-then-size-ge-MAX_LEAVES-clause-refused g c = λ why is.
    let n = c.args.self.now.numbers in
    let e = read_at n.batches.items c.args.b c.index_mut.result.now (omega arith) c.index_mut.ensures.value ∙ c.in-Unsealed.is in
    (set_same n.batches.items c.args.b _ e, refl)

pub returns-then-size-ge-MAX_LEAVES-clause-ok : goal.returns-then-size-ge-MAX_LEAVES-clause-ok
returns-then-size-ge-MAX_LEAVES-clause-ok g c =
    let n = c.args.self.now.numbers in
    let b = c.args.b in
    let u = c.in-Unsealed.batch in
    let e = read_at n.batches.items b c.index_mut.result.now (omega arith) c.index_mut.ensures.value ∙ c.in-Unsealed.is in
    append_no_room g.D.Database.kind c.args.self.now.db n c.requires _ refl b u e c.args.self.now.limit c.args.value.now (set_same n.batches.items b _ e) refl c.size-size.result (omega arith) c.size-size.ensures.size (omega arith)

pub returns-in_ok-append-in-Unsealed-clause-ok : goal.returns-in_ok-append-in-Unsealed-clause-ok
returns-in_ok-append-in-Unsealed-clause-ok g c =
    let n = c.args.self.now.numbers in
    let b = c.args.b in
    let u = c.in-Unsealed.batch in
    let e = read_at n.batches.items b c.index_mut.result.now (omega arith) c.index_mut.ensures.value ∙ c.in-Unsealed.is in
    let done = c.in_ok-append-in-Unsealed.ensures in
    let few = c.size-size.ensures.size in
    append_follows g.D.Database.kind c.args.self.now.db n c.requires _ refl b u e c.args.self.now.limit c.args.value.now c.append.new.batch refl refl done.parent done.pending done.list done.marks (omega arith) (omega (arith, few))

pub returns-in_default : goal.returns-in_default
returns-in_default g c =
    let k = g.D.Database.kind in
    let n = c.args.self.now.numbers in
    let b = c.args.b in
    let x = c.index_mut.result.now in
    let e = read_at n.batches.items b x (omega arith) c.index_mut.ensures.value in
    record {
      ok = stays k c.args.self.now.db n c.requires _ refl (set_same n.batches.items b x e) refl AnyState _ (answer.Refused (NoBatch b)) (λ image s any is.
          append_sealed s b c.args.self.now.limit c.args.value.now _ (entry_sealed (same_lists k) n.batches.items n.pool s.batches b _ _ (is.batches.each b) (λ u at. c.in_default.not-Unsealed u (sym e ∙ at))));
      refused = λ why is. (set_same n.batches.items b x e, refl);
      db = refl;
      limit = refl;
      taken = refl;
      memory = tt;
    }
