use Rattle.std.proofs.Common.{arith}
use Rattle.std.specs.Prelude.{codes}
use Rattle.stream_base.specs.Writing.{text_then}
use Rattle.command_text.specs.Text.{bytes_text}
use Rattle.line_text.specs.Pending.{puts_err}
use Rattle.command_text.proofs.EachText.{nothing_sent, each_front, each_more, each_end}
use Rattle.command_text.proofs.text.put_more_operations.Goals as goal

pub loop-operation-init : goal.loop-operation-init
loop-operation-init g c = record { sent = nothing_sent _ _; later = omega arith }

pub returns-in_err-put_another-clause-text : goal.returns-in_err-put_another-clause-text
returns-in_err-put_another-clause-text g c =
    puts_err _ _ _ _ c.from_residual.result _ c.from_residual.ensures.0 (each_front (λ op. text_then (codes ",") (bytes_text op)) _ _ _ c.loop-operation.piece _ c.args.operations.now c.loop-operation.operation-index _ c.loop-operation-test.true c.loop-operation.invariant.sent (rw c.operation-item.is at c.in_err-put_another.ensures.text))

pub loop-operation-preserved : goal.loop-operation-preserved
loop-operation-preserved g c = record {
  sent = each_more (λ op. text_then (codes ",") (bytes_text op)) _ _ _ c.loop-operation.piece _ c.put_another.new.piece c.args.operations.now c.loop-operation.operation-index _ c.loop-operation-test.true c.loop-operation.invariant.sent (rw c.operation-item.is at c.in_ok-put_another.ensures.text);
  later = omega (arith, c.loop-operation.invariant.later, c.put_another.ensures.cause.later);
}

pub returns-clause-text : goal.returns-clause-text
returns-clause-text g c = each_end (λ op. text_then (codes ",") (bytes_text op)) _ _ _ c.loop-operation.piece c.args.operations.now c.loop-operation.operation-index c.loop-operation-test.false c.loop-operation.invariant.sent
