use Rattle.std.proofs.Common.{◌≡◌, refl, sym, ◌∙◌, ap, subst, arith}
use Rattle.std.specs.Prelude.{Result}
use Rattle.codec_base.specs.declared.parts.LengthCfg.{LengthCfg}
use Rattle.volume_base.specs.Moments.{present}
use Rattle.journal_base.specs.Items.{items_of}
use Rattle.tree_shape.specs.declared.mmr.Mmr.{Mmr}
use Rattle.log_model.specs.Machine.{State, batch_at}
use Rattle.log_model.specs.declared.refusal.Refusal.TheVariants.{NoBatch}
use Rattle.chain_core.specs.declared.error.Error.{Error}
use Rattle.command_text.specs.declared.command.Answer.{Answer}
use Rattle.list_machine.specs.Operation.{Operation, meaning}
use Rattle.list_machine.specs.Step.{batch_get_many}
use Rattle.twin_batches.proofs.Matching.{read_at}
use Rattle.twin_side.specs.Unread.{AreReadsRefusedAt}
use Rattle.twin_side.proofs.BatchReads.{RefusedFor, so_err, so_ok}
use Rattle.twin_side.proofs.FullReads.{Admits}
use Rattle.twin_side.proofs.ReadAnswers.{IsRead, asked_for, held_lives, no_batch, other_bounds, other_many, parent_alive, past_bounds, past_many, reads_nothing, sealed_values, unsealed_values}
use Rattle.twin_side.proofs.full_reads.Side+Full.batch_get_many.Goals as goal

pub item-batch-requires : goal.item-batch-requires
item-batch-requires g c = held_lives c.args.self.now.numbers c.requires c.args.b c.in-Some.held (sym c.in-Some.ensures.held)

pub returns-in-Some : goal.returns-in-Some
returns-in-Some g c =
    let db = c.args.self.now.db in
    let n = c.args.self.now.numbers in
    let b = c.args.b in
    let old = g.V.Volume.state c.args.volume.now in
    let new = g.V.Volume.state c.get_many.new.vol in
    let said = c.get_many.ensures in
    let read =
    sealed_values g.V.Volume.tells old new db n b (c.get_many.new.vol ≡ c.args.volume.now) (λ same. ap g.V.Volume.state same) (items_of meaning.encoding (λ (cfg : LengthCfg) (op : Operation). Admits cfg.max op) db.journal.items old)
    c.in-Some.held c.item-batch.result.now (sym c.in-Some.ensures.held) c.item-batch.ensures (λ v. v.items) c.get_many.result c.deref.result.now c.args.locations.now (c.deref.ensures.value ∙ c.in_ok-places.ensures.same ∙ c.as_slice.ensures) said.stale said.unfit said.answer said.fault said.reads in
    let is =
    subst (λ (q : Result Answer (Error Mmr)). IsRead g.V.Volume.tells (present old) db n (λ (s : State Operation). (batch_get_many s b c.args.locations.now (batch_at s b)).0) (c.get_many.new.vol ≡ c.args.volume.now) (λ why. AreReadsRefusedAt db n b c.args.locations.now why) old new q)
    (sym c.values_answer.ensures) read in
    record {
      ok = is.ok;
      errors = is.errors;
      known = so_ok (λ why. AreReadsRefusedAt db n b c.args.locations.now why) c.values_answer.result is.known;
      lacking = so_err (λ why. AreReadsRefusedAt db n b c.args.locations.now why) c.values_answer.result is.known;
      refused = is.refused;
      reads = is.reads;
    }

pub returns-then-b-len : goal.returns-then-b-len
returns-then-b-len g c =
    let n = c.args.self.now.numbers in
    record {
      ok = past_many g.V.Volume.tells (present (g.V.Volume.state c.args.volume.now)) c.args.self.now.db n c.args.b c.args.locations.now (omega arith);
      errors = tt;
      known = so_ok (λ why. AreReadsRefusedAt c.args.self.now.db n c.args.b c.args.locations.now why) (RefusedFor (NoBatch c.args.b))
          (no_batch c.args.self.now.db n c.args.b (asked_for c.args.locations.now) (past_bounds c.args.self.now.db n c.args.b (omega arith)));
      lacking = tt;
      refused = λ why is. refl;
      reads = reads_nothing g.V.Volume.tells (g.V.Volume.state c.args.volume.now) _ (λ never. absurd (cc));
    }

pub returns-in_default-index : goal.returns-in_default-index
returns-in_default-index g c =
    let n = c.args.self.now.numbers in
    let e = read_at n.batches.items c.args.b c.index.result.now (omega arith) c.index.ensures in
    record {
      ok = other_many g.V.Volume.tells (present (g.V.Volume.state c.args.volume.now)) c.args.self.now.db n c.args.b (sym c.in_default.ensures.held) (λ u at. c.in_default-index.not-Unsealed u (sym e ∙ at)) c.args.locations.now;
      errors = tt;
      known = so_ok (λ why. AreReadsRefusedAt c.args.self.now.db n c.args.b c.args.locations.now why) (RefusedFor (NoBatch c.args.b))
          (no_batch c.args.self.now.db n c.args.b (asked_for c.args.locations.now)
          (other_bounds c.args.self.now.db n c.args.b (sym c.in_default.ensures.held) (λ u at. c.in_default-index.not-Unsealed u (sym e ∙ at))));
      lacking = tt;
      refused = λ why is. refl;
      reads = reads_nothing g.V.Volume.tells (g.V.Volume.state c.args.volume.now) _ (λ never. absurd (cc));
    }

pub get_many-requires-2 : goal.get_many-requires-2
get_many-requires-2 g c =
    let n = c.args.self.now.numbers in
    let e = read_at n.batches.items c.args.b c.index.result.now (omega arith) c.index.ensures ∙ c.in-Unsealed.is in
    parent_alive n c.requires c.args.b c.in-Unsealed.batch e

pub returns : goal.returns
returns g c =
    let db = c.args.self.now.db in
    let n = c.args.self.now.numbers in
    let b = c.args.b in
    let old = g.V.Volume.state c.args.volume.now in
    let new = g.V.Volume.state c.get_many-2.new.vol in
    let said = c.get_many-2.ensures in
    let e = read_at n.batches.items b c.index.result.now (omega arith) c.index.ensures ∙ c.in-Unsealed.is in
    let read =
    unsealed_values g.V.Volume.tells old new db n b (c.get_many-2.new.vol ≡ c.args.volume.now) (λ same. ap g.V.Volume.state same) (items_of meaning.encoding (λ (cfg : LengthCfg) (op : Operation). Admits cfg.max op) db.journal.items old)
    c.in-Unsealed.batch e (λ v. v.items) c.get_many-2.result c.deref-2.result.now c.args.locations.now (c.deref-2.ensures.value ∙ c.in_ok-places.ensures.same ∙ c.as_slice.ensures) said.stale said.unfit said.answer said.fault said.reads in
    let is =
    subst (λ (q : Result Answer (Error Mmr)). IsRead g.V.Volume.tells (present old) db n (λ (s : State Operation). (batch_get_many s b c.args.locations.now (batch_at s b)).0) (c.get_many-2.new.vol ≡ c.args.volume.now) (λ why. AreReadsRefusedAt db n b c.args.locations.now why) old new q)
    (sym c.values_answer-2.ensures) read in
    record {
      ok = is.ok;
      errors = is.errors;
      known = so_ok (λ why. AreReadsRefusedAt db n b c.args.locations.now why) c.values_answer-2.result is.known;
      lacking = so_err (λ why. AreReadsRefusedAt db n b c.args.locations.now why) c.values_answer-2.result is.known;
      refused = is.refused;
      reads = is.reads;
    }
