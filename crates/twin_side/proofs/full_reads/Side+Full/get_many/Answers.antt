use Rattle.std.proofs.Common.{Ok, sym, ◌∙◌, ap}
use Rattle.volume_base.specs.Moments.{present}
use Rattle.command_text.specs.declared.command.Answer.TheVariants as answer
use Rattle.list_machine.specs.Step.{get_many}
use Rattle.twin_side.specs.ReadRefusals.{kept_refusals}
use Rattle.twin_side.proofs.ReadAnswers.{err_of, get_many_err, get_many_ok, get_many_why, known_none, known_some}
use Rattle.twin_side.proofs.full_reads.Side+Full.get_many.Goals as goal

pub returns-in-Some-clause-ok : goal.returns-in-Some-clause-ok
returns-in-Some-clause-ok g c = λ told config s stands.
    let db = c.args.self.now.db in
    let ls = c.as_slice-locations.result.now in
    get_many_why config (present (g.V.Volume.state c.args.volume.now)) db c.args.self.now.numbers s stands c.args.locations.now c.in-Some.refusal
    (c.in-Some.ensures
    ∙ ap (λ k. kept_refusals k c.as_u64-2.result ls) (c.as_u64.ensures ∙ c.bounds-start.ensures.size)
    ∙ ap (λ k. kept_refusals db.state.size k ls) (c.as_u64-2.ensures ∙ c.bounds-start.ensures.start)
    ∙ ap (λ ks. kept_refusals db.state.size db.journal.items.start ks) c.as_slice-locations.ensures)

pub returns-in-Ok-clause-ok : goal.returns-in-Ok-clause-ok
returns-in-Ok-clause-ok g c = λ told config s stands.
    ap answer.Values c.from_vec.ensures
    ∙ get_many_ok config (present (g.V.Volume.state c.args.volume.now)) c.args.self.now.db c.args.self.now.numbers s stands (λ v. v.items) (Ok c.in-Ok.values) c.deref.result.now (c.in-Ok.ensures.answer told)
    ∙ ap (λ ks. (get_many s ks).0) (c.deref.ensures.value ∙ c.in_ok-places.ensures.same ∙ c.as_slice-locations.ensures)

pub returns-clause-errors : goal.returns-clause-errors
returns-clause-errors g c = λ told config s stands.
    let db = c.args.self.now.db in
    let ls = c.as_slice-locations.result.now in
    let none = c.in_default.ensures
    ∙ ap (λ k. kept_refusals k c.as_u64-2.result ls) (c.as_u64.ensures ∙ c.bounds-start.ensures.size)
    ∙ ap (λ k. kept_refusals db.state.size k ls) (c.as_u64-2.ensures ∙ c.bounds-start.ensures.start)
    ∙ ap (λ ks. kept_refusals db.state.size db.journal.items.start ks) (sym (c.deref.ensures.value ∙ c.in_ok-places.ensures.same)) in
    err_of c.get_many.result c.in-Err.error c.in-Err.is
    (get_many_err config (present (g.V.Volume.state c.args.volume.now)) db c.args.self.now.numbers s stands (λ v. v.items) c.get_many.result c.deref.result.now (c.get_many.ensures.answer told) none)

pub returns-in-Some-clause-known : goal.returns-in-Some-clause-known
returns-in-Some-clause-known g c =
    let db = c.args.self.now.db in
    let ls = c.as_slice-locations.result.now in
    known_some (kept_refusals db.state.size db.journal.items.start c.args.locations.now) c.in-Some.refusal
    (c.in-Some.ensures
    ∙ ap (λ k. kept_refusals k c.as_u64-2.result ls) (c.as_u64.ensures ∙ c.bounds-start.ensures.size)
    ∙ ap (λ k. kept_refusals db.state.size k ls) (c.as_u64-2.ensures ∙ c.bounds-start.ensures.start)
    ∙ ap (λ ks. kept_refusals db.state.size db.journal.items.start ks) c.as_slice-locations.ensures)

pub returns-in-Ok-clause-known : goal.returns-in-Ok-clause-known
returns-in-Ok-clause-known g c =
    let db = c.args.self.now.db in
    let ls = c.as_slice-locations.result.now in
    known_none (kept_refusals db.state.size db.journal.items.start c.args.locations.now) _
    (c.in_default.ensures
    ∙ ap (λ k. kept_refusals k c.as_u64-2.result ls) (c.as_u64.ensures ∙ c.bounds-start.ensures.size)
    ∙ ap (λ k. kept_refusals db.state.size k ls) (c.as_u64-2.ensures ∙ c.bounds-start.ensures.start)
    ∙ ap (λ ks. kept_refusals db.state.size db.journal.items.start ks) c.as_slice-locations.ensures) (λ why e. cc)

pub returns-clause-known : goal.returns-clause-known
returns-clause-known g c =
    let db = c.args.self.now.db in
    let ls = c.as_slice-locations.result.now in
    known_none (kept_refusals db.state.size db.journal.items.start c.args.locations.now) _
    (c.in_default.ensures
    ∙ ap (λ k. kept_refusals k c.as_u64-2.result ls) (c.as_u64.ensures ∙ c.bounds-start.ensures.size)
    ∙ ap (λ k. kept_refusals db.state.size k ls) (c.as_u64-2.ensures ∙ c.bounds-start.ensures.start)
    ∙ ap (λ ks. kept_refusals db.state.size db.journal.items.start ks) c.as_slice-locations.ensures) (λ why e. cc)
