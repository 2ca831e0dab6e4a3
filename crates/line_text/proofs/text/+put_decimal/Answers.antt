use Rattle.std.proofs.lemmas.Fmt.{decimal_digit}
use Rattle.line_text.specs.Pending.{puts_err, puts_front_first, puts_then}
use Rattle.line_text.proofs.DecimalDigits.{decimal_then}
use Rattle.line_text.proofs.text.+put_decimal.Goals as goal

pub returns-then-n-lt10-clause-text : goal.returns-then-n-lt10-clause-text
returns-then-n-lt10-clause-text g t c = rw (decimal_digit c.args.n c.if-n-lt10.true) c.put.ensures.text

pub returns-in_err-put_decimal-clause-text : goal.returns-in_err-put_decimal-clause-text
returns-in_err-put_decimal-clause-text g t c =
    rw (decimal_then c.args.n c.if-n-lt10.false c.ranges.n.fits)
    (puts_err _ _ _ _ c.from_residual.result _ c.from_residual.ensures.0 (puts_front_first _ _ _ _ _ c.in_err-put_decimal.ensures.text))

pub returns-clause-text : goal.returns-clause-text
returns-clause-text g t c =
    rw (decimal_then c.args.n c.if-n-lt10.false c.ranges.n.fits)
    (puts_then _ _ _ _ _ _ _ _ _ c.in_ok-put_decimal.ensures.text c.put-2.ensures.text)
