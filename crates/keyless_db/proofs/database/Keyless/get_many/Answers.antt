use Rattle.std.proofs.Common.{◌≡◌, length, map, Some, None, sym, ◌∙◌, ap, subst}
use Rattle.log_model.specs.Reads.{many_refusal, value_at}
use Rattle.log_model.specs.declared.refusal.Refusal.TheVariants.{ItemPruned}
use Rattle.keyless_db.specs.DbView.{DbView}
use Rattle.keyless_db.specs.Reading.{locations_refusal}
use Rattle.keyless_db.proofs.SeveralLemmas.{answers_by, answers_refused, fit_ok, unfit_err, many_from_start, many_unfit}
use Rattle.keyless_db.proofs.StillLemmas.{held_size}
use Rattle.keyless_db.proofs.database.Keyless.get_many.Goals as goal

pub returns-in-Ok-clause-answer : goal.returns-in-Ok-clause-answer
returns-in-Ok-clause-answer g c tells ops held all =
    let db = c.args.self.now in
    let locs = c.args.locs.now in
    let size : c.as_u64-size.result ≡ length ops = c.as_u64-size.ensures ∙ ap (λ (d : DbView g.row.F.Denot g.row.H-Digest.Denot g.row.O.Denot g.row.O-Cfg.Denot). d.state.size) c.self.view_is ∙ held_size held in
    let fit : locations_refusal (length ops) locs ≡ None = subst (λ n. locations_refusal n locs ≡ None) size (fit_ok g.row.F.Denot (locations_refusal c.as_u64-size.result locs) tt c.in-Ok.ensures) in
    answers_by _ _ _ c.values.result (sym (many_from_start g.O.Logged.meaning ops locs db.journal.items.start fit)) (c.values.ensures.listed tells ops held all fit)

pub returns-in-Err-clause-answer : goal.returns-in-Err-clause-answer
returns-in-Err-clause-answer g c tells ops held all =
    let db = c.args.self.now in
    let locs = c.args.locs.now in
    let size : c.as_u64-size.result ≡ length ops = c.as_u64-size.ensures ∙ ap (λ (d : DbView g.row.F.Denot g.row.H-Digest.Denot g.row.O.Denot g.row.O-Cfg.Denot). d.state.size) c.self.view_is ∙ held_size held in
    let why = unfit_err (Unit {0}) (locations_refusal c.as_u64-size.result locs) c.in-Err.error c.in-Err.ensures in
    let is : locations_refusal (length ops) locs ≡ Some why.0 = subst (λ n. locations_refusal n locs ≡ Some why.0) size why.1 in
    answers_refused (many_refusal ops db.journal.items.start ItemPruned locs) (map (value_at g.O.Logged.meaning ops) locs) why.0 c.in-Err.error (many_unfit g.O.Logged.meaning ops locs db.journal.items.start ItemPruned why.0 is) why.2
