use Rattle.std.proofs.Common.{◌≡◌, None, length, refl, sym, ◌∙◌, ap}
use Rattle.std.proofs.lemmas.Result.{IfOk-weaker}
use Rattle.twin_side.specs.Proving.{outside_refusal}
use Rattle.twin_side.proofs.CompactProving.{held_now, size_here, served_shown, fails_outside}
use Rattle.twin_side.proofs.compact_proofs.Side+Compact.served.Goals as goal

pub returns-in-Ok-clause-ok : goal.returns-in-Ok-clause-ok
returns-in-Ok-clause-ok g c =
    let db = c.args.self.now.db in
    let numbers = c.args.self.now.numbers in
    IfOk-weaker c.commit_answer.result _ _ (λ made shows told config s good.
    let held = held_now config _ db numbers s good (g.V.Volume.state c.args.volume.now) refl in
    let known : outside_refusal (length s.ops) c.args.n ≡ None =
    ap (λ k. outside_refusal k c.args.n) (sym (size_here config _ db numbers s good)) ∙ c.requires in
    let shown = served_shown config _ db numbers s good c.args.n known c.new.result c.new-2.result c.new.ensures
    c.new-2.ensures c.in-Ok.served (c.in-Ok.ensures.kept told s.ops s.sizes held)
    (c.in-Ok.ensures.list told s.ops s.sizes held) in
    shows shown.proof shown.op shown.served ∙ shown.answers) c.commit_answer.ensures.answer

pub returns-in-Err-clause-errors : goal.returns-in-Err-clause-errors
returns-in-Err-clause-errors g c told config s good has =
    let db = c.args.self.now.db in
    let numbers = c.args.self.now.numbers in
    let held = held_now config _ db numbers s good (g.V.Volume.state c.args.volume.now) refl in
    let known : outside_refusal (length s.ops) c.args.n ≡ None =
    ap (λ k. outside_refusal k c.args.n) (sym (size_here config _ db numbers s good)) ∙ c.requires in
    fails_outside config _ db numbers s good c.args.n known c.new.result c.new-2.result c.new.ensures c.new-2.ensures
    c.in-Err.error has (c.in-Err.ensures.kept told s.ops s.sizes held)
