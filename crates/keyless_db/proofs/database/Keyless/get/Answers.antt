use Rattle.std.proofs.Common.{◌≡◌, ◌≤◌, ◌<◌, length, Some, Option, inr, ◌∙◌, ap, subst, arith}
use Rattle.std.specs.Prelude.{slice_get, IfOk}
use Rattle.journal_base.specs.Items.{items_of}
use Rattle.log_model.specs.declared.refusal.Refusal.TheVariants.{LocationOutOfBounds}
use Rattle.keyless_db.specs.DbView.{DbView}
use Rattle.keyless_db.specs.Reading.{AnswersAs, IsReadAt, from_start}
use Rattle.keyless_db.proofs.ReadLemmas.{get_there, outside_answer}
use Rattle.keyless_db.proofs.StillLemmas.{held_size}
use Rattle.keyless_db.proofs.database.Keyless.get.Goals as goal

pub returns-then-location-size-clause-answer : goal.returns-then-location-size-clause-answer
returns-then-location-size-clause-answer g c tells ops held all =
    let db = c.args.self.now in
    let size : c.as_u64-size.result ≡ db.state.size = c.as_u64-size.ensures ∙ ap (λ (d : DbView g.row.F.Denot g.row.H-Digest.Denot g.row.O.Denot g.row.O-Cfg.Denot). d.state.size) c.self.view_is in
    let count : db.state.size ≡ length ops = held_size held in
    let past : db.state.size ≤ c.args.loc = omega (arith, c.if-location-size.true, size, c.as_u64-location.ensures) in
    let one : c.new.result ≡ c.args.loc = c.new.ensures ∙ c.as_u64-location.ensures in
    let two : c.new-then-location-size.result ≡ db.state.size = c.new-then-location-size.ensures ∙ size in
    inr (
      LocationOutOfBounds c.args.loc db.state.size,
      outside_answer g.O.Logged.meaning ops db.journal.items.start c.args.loc db.state.size count past,
      ap (λ n. Some (LocationOutOfBounds n c.new-then-location-size.result)) one ∙ ap (λ n. Some (LocationOutOfBounds c.args.loc n)) two,
    )

pub returns-clause-answer : goal.returns-clause-answer
returns-clause-answer g c tells ops held all =
    let db = c.args.self.now in
    let size : c.as_u64-size.result ≡ db.state.size = c.as_u64-size.ensures ∙ ap (λ (d : DbView g.row.F.Denot g.row.H-Digest.Denot g.row.O.Denot g.row.O-Cfg.Denot). d.state.size) c.self.view_is in
    let count : db.state.size ≡ length ops = held_size held in
    let l = c.args.loc in
    let same : c.as_u64-location.result ≡ l = c.as_u64-location.ensures in
    let within : l < length ops = omega (arith, c.if-location-size.false, size, count, same) in
    get_there g.O.Logged.meaning ops db.journal.items.start l _ within
    (λ op at. subst (λ n. AnswersAs (λ (v : Option g.row.O-Value.Denot). v) (from_start db.journal.items.start n (g.O.Logged.meaning.value op)) c.value.result) same
    (c.value.ensures.listed tells ops op held (ap (slice_get ops) same ∙ at) (all op at)))

pub returns-clause-told : goal.returns-clause-told
returns-clause-told g c =
    let items = items_of g.O.Spelled.spelling g.O.Read.admits c.args.self.now.journal.items (g.V.Volume.state c.args.vol.now) in
    subst (λ n. IfOk c.value.result (λ v. g.V.Volume.tells → IsReadAt g.O.Logged.meaning items n v)) c.as_u64-location.ensures c.value.ensures.told
