use Rattle.std.proofs.Common.{refl, sym, ◌∙◌, ap, arith}
use Rattle.command_text.specs.declared.command.Answer.TheVariants as answer
use Rattle.log_model.specs.declared.refusal.Refusal.TheVariants.{NoBatch, ValueTooLong}
use Rattle.list_machine.specs.Step.{metadata_length, seal}
use Rattle.list_machine.specs.Told.{IsTold}
use Rattle.twin_batches.specs.StateOf.{same_lists}
use Rattle.twin_batches.proofs.LeftBatches.{unsealed_stays}
use Rattle.twin_batches.proofs.Matching.{read_at, unsealed_there}
use Rattle.twin_batches.proofs.Handlers.{gone_past, entry_sealed, seal_sealed, seal_long, stays}
use Rattle.twin_side.proofs.side.Side.seal.Goals as goal

pub returns-then-b-len-clause-ok : goal.returns-then-b-len-clause-ok
returns-then-b-len-clause-ok g c =
    let k = g.D.Database.kind in
    let n = c.args.self.now.numbers in
    let b = c.args.b in
    stays k c.args.self.now.db n c.requires.shaped _ refl refl refl IsTold _ (answer.Refused (NoBatch b)) (λ image s told is. ap (seal c.args.self.now.limit s b c.args.metadata.now c.args.floor) (gone_past (same_lists k) n.batches.items n.pool s.batches is.batches b (omega arith)))

pub returns-then-b-len-clause-refused : goal.returns-then-b-len-clause-refused
returns-then-b-len-clause-refused g c = λ why is.
    unsealed_stays g.D.Database.kind c.args.b c.args.self.now.numbers (NoBatch c.args.b) why refl is

pub returns-in_default : goal.returns-in_default
returns-in_default g c =
    let k = g.D.Database.kind in
    let n = c.args.self.now.numbers in
    let b = c.args.b in
    let x = c.index.result.now in
    let e = read_at n.batches.items b x (omega arith) c.index.ensures in
    record {
      ok = stays k c.args.self.now.db n c.requires.shaped _ refl refl refl IsTold _ (answer.Refused (NoBatch b)) (λ image s told is.
          seal_sealed s b c.args.self.now.limit c.args.metadata.now c.args.floor _ (entry_sealed (same_lists k) n.batches.items n.pool s.batches b _ _ (is.batches.each b) (λ u at. c.in_default.not-Unsealed u (sym e ∙ at))));
      refused = λ why is. unsealed_stays k b n (NoBatch b) why refl is;
      db = refl;
      limit = refl;
      taken = refl;
      memory = tt;
    }

pub returns-then-long-self-clause-ok : goal.returns-then-long-self-clause-ok
returns-then-long-self-clause-ok g c =
    let k = g.D.Database.kind in
    let n = c.args.self.now.numbers in
    let b = c.args.b in
    let e = read_at n.batches.items b c.index.result.now (omega arith) c.index.ensures ∙ c.in-Unsealed.is in
    let long = c.metadata_length-long.ensures in
    rw long
    (stays k c.args.self.now.db n c.requires.shaped _ refl refl refl IsTold _ (answer.Refused (ValueTooLong (metadata_length c.args.metadata.now))) (λ image s told is.
    let w = unsealed_there (same_lists k) n.batches.items n.pool s.batches is.batches b c.in-Unsealed.field-0 e in
    ap (seal c.args.self.now.limit s b c.args.metadata.now c.args.floor) w.1 ∙ seal_long s b w.0 c.args.self.now.limit c.args.metadata.now c.args.floor (let test = c.if-long-self.true in omega (arith, test, long))))

pub returns-then-long-self-clause-refused : goal.returns-then-long-self-clause-refused
returns-then-long-self-clause-refused g c = λ why is.
    unsealed_stays g.D.Database.kind c.args.b c.args.self.now.numbers (ValueTooLong c.metadata_length-long.result) why refl is

pub end-requires-clause-unsealed : goal.end-requires-clause-unsealed
end-requires-clause-unsealed g c =
    let n = c.args.self.now.numbers in
    (c.in-Unsealed.field-0, read_at n.batches.items c.args.b c.index.result.now (omega arith) c.index.ensures ∙ c.in-Unsealed.is)

pub end-requires-clause-short : goal.end-requires-clause-short
end-requires-clause-short g c =
    let test = c.if-long-self.false in
    let long = c.metadata_length-long.ensures in
    rw c.in-Ok.ensures.same (omega (arith, test, long))

pub returns-clause-ok : goal.returns-clause-ok
returns-clause-ok g c = rw c.in-Ok.ensures.same at c.end.ensures.ok

pub returns-clause-refused : goal.returns-clause-refused
returns-clause-refused g c = c.end.ensures.refused
