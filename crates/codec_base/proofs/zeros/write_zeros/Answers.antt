use Rattle.std.proofs.Common.{◌≡◌, ◌∙◌, ◌++◌, ◌∷◌, [], sym, ap, length, arith, List, ℕ, length-append}
use Rattle.std.proofs.lemmas.List.{append-nil}
use Rattle.codec_base.specs.Combine.{zeros, zeros-more, zeros-none, length-zeros}
use Rattle.codec_base.proofs.zeros.write_zeros.Goals as goal

pub loop-init : goal.loop-init
loop-init c = sym (ap (λ (z : List ℕ). c.args.out.now ++ z) zeros-none ∙ append-nil c.args.out.now)

pub loop-preserved : goal.loop-preserved
loop-preserved c =
    let e = c.in_ok-undo_on_err.ensures {u = tt} in
    let pushed : c.push.new.self ≡ c.loop.out ++ 0 ∷ [] = rw (← e.same) at c.push.ensures.ok in
    e.ok ∙ pushed ∙ ap (λ (o : List ℕ). o ++ 0 ∷ []) c.loop.invariant ∙ zeros-more c.loop.counter c.args.out.now

pub returns-clause-few : goal.returns-clause-few
returns-clause-few c =
    let e = ap length c.loop.invariant in
    let a = length-append c.args.out.now (zeros c.loop.counter) in
    let z = length-zeros c.loop.counter in
    let l = c.len-length.ensures.length in
    let f = c.len-length.ensures.few in
    omega arith
