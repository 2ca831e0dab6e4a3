use Rattle.std.proofs.Common.{arith}
use Rattle.std.specs.Prelude.{codes}
use Rattle.stream_base.specs.Writing.{text_then}
use Rattle.line_text.specs.Text.{value_text}
use Rattle.line_text.specs.Pending.{puts_err}
use Rattle.command_text.proofs.EachText.{nothing_sent, each_front, each_more, each_end}
use Rattle.command_text.proofs.text.put_values.Goals as goal

pub loop-value-init : goal.loop-value-init
loop-value-init g c = record { sent = nothing_sent _ _; later = omega arith }

pub returns-in_err-put_titled_value-clause-text : goal.returns-in_err-put_titled_value-clause-text
returns-in_err-put_titled_value-clause-text g c =
    puts_err _ _ _ _ c.from_residual.result _ c.from_residual.ensures.0 (each_front (λ v. text_then (codes " ") (value_text v)) _ _ _ c.loop-value.piece _ c.args.values.now c.loop-value.value-index _ c.loop-value-test.true c.loop-value.invariant.sent (rw c.value-item.is at c.in_err-put_titled_value.ensures.text))

pub loop-value-preserved : goal.loop-value-preserved
loop-value-preserved g c = record {
  sent = each_more (λ v. text_then (codes " ") (value_text v)) _ _ _ c.loop-value.piece _ c.put_titled_value.new.piece c.args.values.now c.loop-value.value-index _ c.loop-value-test.true c.loop-value.invariant.sent (rw c.value-item.is at c.in_ok-put_titled_value.ensures.text);
  later = omega (arith, c.loop-value.invariant.later, c.put_titled_value.ensures.cause.later);
}

pub returns-clause-text : goal.returns-clause-text
returns-clause-text g c = each_end (λ v. text_then (codes " ") (value_text v)) _ _ _ c.loop-value.piece c.args.values.now c.loop-value.value-index c.loop-value-test.false c.loop-value.invariant.sent
