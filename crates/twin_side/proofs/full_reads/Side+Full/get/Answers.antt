use Rattle.std.proofs.Common.{Ok, sym, ◌∙◌, ap}
use Rattle.volume_base.specs.Moments.{present}
use Rattle.list_machine.specs.Step.{get}
use Rattle.twin_side.specs.ReadRefusals.{kept_refusal}
use Rattle.twin_side.proofs.ReadAnswers.{err_of, get_err, get_ok, known_none, known_some}
use Rattle.twin_side.proofs.full_reads.Side+Full.get.Goals as goal

pub returns-in-Ok-clause-ok : goal.returns-in-Ok-clause-ok
returns-in-Ok-clause-ok g c = λ told config s stands.
    get_ok config (present (g.V.Volume.state c.args.volume.now)) c.args.self.now.db c.args.self.now.numbers s stands (λ v. v) (Ok c.in-Ok.value) c.new.result (c.in-Ok.ensures.answer told)
    ∙ ap (λ k. (get s k).0) c.new.ensures

pub returns-in-Err-clause-errors : goal.returns-in-Err-clause-errors
returns-in-Err-clause-errors g c = λ told config s stands.
    let db = c.args.self.now.db in
    let none = c.in_default.ensures
    ∙ ap (λ k. kept_refusal k c.as_u64-2.result c.args.location) (c.as_u64.ensures ∙ c.bounds-start.ensures.size)
    ∙ ap (λ k. kept_refusal db.state.size k c.args.location) (c.as_u64-2.ensures ∙ c.bounds-start.ensures.start)
    ∙ ap (λ k. kept_refusal db.state.size db.journal.items.start k) (sym c.new.ensures) in
    err_of c.get.result c.in-Err.error c.in-Err.is
    (get_err config (present (g.V.Volume.state c.args.volume.now)) db c.args.self.now.numbers s stands (λ v. v) c.get.result c.new.result (c.get.ensures.answer told) none)

pub returns-in-Some-clause-known : goal.returns-in-Some-clause-known
returns-in-Some-clause-known g c =
    let db = c.args.self.now.db in
    known_some (kept_refusal db.state.size db.journal.items.start c.args.location) c.in-Some.refusal
    (c.in-Some.ensures
    ∙ ap (λ k. kept_refusal k c.as_u64-2.result c.args.location) (c.as_u64.ensures ∙ c.bounds-start.ensures.size)
    ∙ ap (λ k. kept_refusal db.state.size k c.args.location) (c.as_u64-2.ensures ∙ c.bounds-start.ensures.start))

pub returns-in-Ok-clause-known : goal.returns-in-Ok-clause-known
returns-in-Ok-clause-known g c =
    let db = c.args.self.now.db in
    known_none (kept_refusal db.state.size db.journal.items.start c.args.location) _
    (c.in_default.ensures
    ∙ ap (λ k. kept_refusal k c.as_u64-2.result c.args.location) (c.as_u64.ensures ∙ c.bounds-start.ensures.size)
    ∙ ap (λ k. kept_refusal db.state.size k c.args.location) (c.as_u64-2.ensures ∙ c.bounds-start.ensures.start)) (λ why e. cc)

pub returns-in-Err-clause-known : goal.returns-in-Err-clause-known
returns-in-Err-clause-known g c =
    let db = c.args.self.now.db in
    known_none (kept_refusal db.state.size db.journal.items.start c.args.location) _
    (c.in_default.ensures
    ∙ ap (λ k. kept_refusal k c.as_u64-2.result c.args.location) (c.as_u64.ensures ∙ c.bounds-start.ensures.size)
    ∙ ap (λ k. kept_refusal db.state.size k c.args.location) (c.as_u64-2.ensures ∙ c.bounds-start.ensures.start)) (λ why e. cc)
