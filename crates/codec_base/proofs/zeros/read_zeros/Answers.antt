use Rattle.std.proofs.Common.{◌∙◌, ◌+◌, ◌-◌, sym}
use Rattle.std.proofs.lemmas.Result.{err_from_is_err_and}
use Rattle.codec_base.specs.Combine.{zeros_step, zeros_ended, one_zero_ok, one_zero_err, one_zero_fails}
use Rattle.codec_base.proofs.zeros.read_zeros.Goals as goal

pub loop-preserved : goal.loop-preserved
loop-preserved c =
    sym (one_zero_ok _ c.loop.ahead c.in_ok-byte.field-0 c.byte.new.self c.in_ok-byte.ensures.taken c.if-branch-ne0.false) ∙ sym (zeros_step c.args.count c.loop.counter c.loop.ahead c.loop-test.true) ∙ c.loop.invariant

pub returns-in_err-byte-clause-taken : goal.returns-in_err-byte-clause-taken
returns-in_err-byte-clause-taken c =
    let p = err_from_is_err_and c.from_residual.result c.from_residual.ensures.1 in
    let s = sym c.loop.invariant ∙ zeros_step c.args.count c.loop.counter c.loop.ahead c.loop-test.true in
    rw (p.1, p.2, s) (one_zero_fails c.in_err-byte.field-0.0 (c.args.count - (c.loop.counter + 1)) c.loop.ahead c.in_err-byte.ensures.taken)

pub returns-then-branch-ne0-clause-taken : goal.returns-then-branch-ne0-clause-taken
returns-then-branch-ne0-clause-taken c =
    sym c.loop.invariant ∙ zeros_step c.args.count c.loop.counter c.loop.ahead c.loop-test.true ∙ one_zero_err _ c.loop.ahead c.in_ok-byte.field-0 c.byte.new.self c.in_ok-byte.ensures.taken c.if-branch-ne0.true

pub returns-clause-taken : goal.returns-clause-taken
returns-clause-taken c = sym c.loop.invariant ∙ zeros_ended c.args.count c.loop.counter c.loop.ahead c.loop-test.false
