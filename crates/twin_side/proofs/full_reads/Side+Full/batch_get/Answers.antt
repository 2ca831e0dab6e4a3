use Rattle.std.proofs.Common.{◌≡◌, refl, sym, ◌∙◌, ap, subst, arith}
use Rattle.std.specs.Prelude.{Result}
use Rattle.codec_base.specs.declared.parts.LengthCfg.{LengthCfg}
use Rattle.volume_base.specs.Moments.{present}
use Rattle.journal_base.specs.Items.{items_of}
use Rattle.tree_shape.specs.declared.mmr.Mmr.{Mmr}
use Rattle.log_model.specs.Machine.{State, batch_at}
use Rattle.chain_core.specs.declared.error.Error.{Error}
use Rattle.command_text.specs.declared.command.Answer.{Answer}
use Rattle.list_machine.specs.Operation.{Operation, meaning}
use Rattle.list_machine.specs.Step.{batch_get}
use Rattle.twin_batches.proofs.Matching.{read_at}
use Rattle.twin_side.specs.Unread.{IsReadRefusedAt}
use Rattle.twin_side.proofs.FullReads.{Admits}
use Rattle.twin_side.proofs.ReadAnswers.{IsRead, asked_at, held_lives, no_batch, other_bounds, other_one, parent_alive, past_bounds, past_one, reads_nothing, sealed_value, unsealed_value}
use Rattle.twin_side.proofs.full_reads.Side+Full.batch_get.Goals as goal

pub item-batch-requires : goal.item-batch-requires
item-batch-requires g c = held_lives c.args.self.now.numbers c.requires c.args.b c.in-Some.held (sym c.in-Some.ensures.held)

pub returns-in-Some : goal.returns-in-Some
returns-in-Some g c =
    let db = c.args.self.now.db in
    let n = c.args.self.now.numbers in
    let b = c.args.b in
    let old = g.V.Volume.state c.args.volume.now in
    let new = g.V.Volume.state c.get.new.vol in
    let said = c.get.ensures in
    let read =
    sealed_value g.V.Volume.tells old new db n b (c.get.new.vol ≡ c.args.volume.now) (λ same. ap g.V.Volume.state same) (items_of meaning.encoding (λ (cfg : LengthCfg) (op : Operation). Admits cfg.max op) db.journal.items old)
    c.in-Some.held c.item-batch.result.now (sym c.in-Some.ensures.held) c.item-batch.ensures (λ v. v) c.get.result c.new-place.result c.args.location c.new-place.ensures said.stale said.unfit said.answer said.fault said.reads in
    let is =
    subst (λ (q : Result Answer (Error Mmr)). IsRead g.V.Volume.tells (present old) db n (λ (s : State Operation). (batch_get s b c.args.location (batch_at s b)).0) (c.get.new.vol ≡ c.args.volume.now) (λ why. IsReadRefusedAt db n b c.args.location why) old new q)
    (sym c.value_answer.ensures) read in
    record { ok = is.ok; errors = is.errors; known = is.known; refused = is.refused; reads = is.reads }

pub returns-then-b-len : goal.returns-then-b-len
returns-then-b-len g c =
    let n = c.args.self.now.numbers in
    record {
      ok = past_one g.V.Volume.tells (present (g.V.Volume.state c.args.volume.now)) c.args.self.now.db n c.args.b c.args.location (omega arith);
      errors = tt;
      known = no_batch c.args.self.now.db n c.args.b (asked_at c.args.location) (past_bounds c.args.self.now.db n c.args.b (omega arith));
      refused = λ why is. refl;
      reads = reads_nothing g.V.Volume.tells (g.V.Volume.state c.args.volume.now) _ (λ never. absurd (cc));
    }

pub returns-in_default-index : goal.returns-in_default-index
returns-in_default-index g c =
    let n = c.args.self.now.numbers in
    let e = read_at n.batches.items c.args.b c.index.result.now (omega arith) c.index.ensures in
    record {
      ok = other_one g.V.Volume.tells (present (g.V.Volume.state c.args.volume.now)) c.args.self.now.db n c.args.b (sym c.in_default.ensures.held) (λ u at. c.in_default-index.not-Unsealed u (sym e ∙ at)) c.args.location;
      errors = tt;
      known = no_batch c.args.self.now.db n c.args.b (asked_at c.args.location)
          (other_bounds c.args.self.now.db n c.args.b (sym c.in_default.ensures.held) (λ u at. c.in_default-index.not-Unsealed u (sym e ∙ at)));
      refused = λ why is. refl;
      reads = reads_nothing g.V.Volume.tells (g.V.Volume.state c.args.volume.now) _ (λ never. absurd (cc));
    }

pub get-requires-2 : goal.get-requires-2
get-requires-2 g c =
    let n = c.args.self.now.numbers in
    let e = read_at n.batches.items c.args.b c.index.result.now (omega arith) c.index.ensures ∙ c.in-Unsealed.is in
    parent_alive n c.requires c.args.b c.in-Unsealed.batch e

pub returns : goal.returns
returns g c =
    let db = c.args.self.now.db in
    let n = c.args.self.now.numbers in
    let b = c.args.b in
    let old = g.V.Volume.state c.args.volume.now in
    let new = g.V.Volume.state c.get-2.new.vol in
    let said = c.get-2.ensures in
    let e = read_at n.batches.items b c.index.result.now (omega arith) c.index.ensures ∙ c.in-Unsealed.is in
    let read =
    unsealed_value g.V.Volume.tells old new db n b (c.get-2.new.vol ≡ c.args.volume.now) (λ same. ap g.V.Volume.state same) (items_of meaning.encoding (λ (cfg : LengthCfg) (op : Operation). Admits cfg.max op) db.journal.items old)
    c.in-Unsealed.batch e (λ v. v) c.get-2.result c.new-place.result c.args.location c.new-place.ensures said.stale said.unfit said.answer said.fault said.reads in
    let is =
    subst (λ (q : Result Answer (Error Mmr)). IsRead g.V.Volume.tells (present old) db n (λ (s : State Operation). (batch_get s b c.args.location (batch_at s b)).0) (c.get-2.new.vol ≡ c.args.volume.now) (λ why. IsReadRefusedAt db n b c.args.location why) old new q)
    (sym c.value_answer-2.ensures) read in
    record { ok = is.ok; errors = is.errors; known = is.known; refused = is.refused; reads = is.reads }
