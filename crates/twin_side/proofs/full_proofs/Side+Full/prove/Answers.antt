use Rattle.std.proofs.Common.{◌≡◌, Some, sym, ◌∙◌, ap}
use Rattle.std.specs.NonZero.{non_zero_u64_get}
use Rattle.std.proofs.lemmas.Result.{IfOk-weaker}
use Rattle.keyless_db.specs.Reading.{late_refusal}
use Rattle.twin_side.proofs.full_proofs.Side+Full.prove.Goals as goal

pub returns-in-Some-late_refusal-clause-ok : goal.returns-in-Some-late_refusal-clause-ok
returns-in-Some-late_refusal-clause-ok g c =
    let start = c.args.self.now.db.journal.items.start in
    let late : late_refusal start c.args.s c.args.a ≡ Some c.in-Some-late_refusal.refusal =
    ap (λ k. late_refusal k c.args.s c.args.a) (sym (c.as_u64-start.ensures ∙ c.bounds-start.ensures.start)) ∙ sym c.late_refusal.ensures ∙ c.in-Some-late_refusal.is in
    IfOk-weaker c.refused_late.result _ _ (λ made is tells config s good. is tells config s good c.args.a (non_zero_u64_get c.args.n) late) c.refused_late.ensures.ok
