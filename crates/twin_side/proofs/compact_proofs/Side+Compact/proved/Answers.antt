use Rattle.std.proofs.Common.{◌≡◌, None, true, false, length, sym, ◌∙◌, ap}
use Rattle.std.proofs.lemmas.Result.{IfOk-weaker, IfErr-weaker}
use Rattle.twin_side.specs.Proving.{outside_refusal, has_witness}
use Rattle.twin_side.proofs.CompactProving.{size_here, good_over, refused_unkept}
use Rattle.twin_side.proofs.compact_proofs.Side+Compact.proved.Goals as goal

pub returns-in-Ok-true-clause-ok : goal.returns-in-Ok-true-clause-ok
returns-in-Ok-true-clause-ok g c =
    let db = c.args.self.now.db in
    let numbers = c.args.self.now.numbers in
    let state = g.V.Volume.state in
    IfOk-weaker c.served.result _ _ (λ made is told config s good.
    is told config s (good_over config (state c.args.volume.now) (state c.keeps.new.volume)
    (c.in-Ok-true.ensures.reads.contents told) db numbers s good)) c.served.ensures.ok

pub returns-in-Ok-true-clause-errors : goal.returns-in-Ok-true-clause-errors
returns-in-Ok-true-clause-errors g c =
    let db = c.args.self.now.db in
    let numbers = c.args.self.now.numbers in
    let state = g.V.Volume.state in
    IfErr-weaker c.served.result _ _ (λ e is told config s good.
    let has : has_witness s c.args.n ≡ true =
    (let kept = c.in-Ok-true.ensures.kept told config s good in let test = c.in-Ok-true.field-0-test in cc) in
    is told config s (good_over config (state c.args.volume.now) (state c.keeps.new.volume)
    (c.in-Ok-true.ensures.reads.contents told) db numbers s good) has) c.served.ensures.errors

pub returns-in-Ok-false-clause-ok : goal.returns-in-Ok-false-clause-ok
returns-in-Ok-false-clause-ok g c told config s good =
    let none : has_witness s c.args.n ≡ false =
    (let kept = c.in-Ok-false.ensures.kept told config s good in let test = c.in-Ok-false.field-0-test in cc) in
    let known : outside_refusal (length s.ops) c.args.n ≡ None =
    ap (λ k. outside_refusal k c.args.n)
    (sym (size_here config _ c.args.self.now.db c.args.self.now.numbers s good)) ∙ c.requires in
    refused_unkept s c.args.n known none
