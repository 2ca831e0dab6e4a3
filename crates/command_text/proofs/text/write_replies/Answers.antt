use Rattle.std.proofs.Common.{arith}
use Rattle.stream_base.specs.Writing.{writes_err}
use Rattle.command_text.proofs.ReplyLines.{lines_front, lines_more, lines_end}
use Rattle.command_text.proofs.text.write_replies.Goals as goal

pub returns-in_err-put_reply-clause-text : goal.returns-in_err-put_reply-clause-text
returns-in_err-put_reply-clause-text g c =
    writes_err _ _ c.from_residual.result _ c.from_residual.ensures.0
    (rw (← c.as_slice-reply-items.ensures) (lines_front _ _ c.loop-reply.piece _ c.as_slice-reply-items.result.now c.loop-reply.reply-index _ c.loop-reply-test.true c.loop-reply.invariant.sent (rw c.reply-item.is at c.in_err-put_reply.ensures.text)))

pub loop-reply-preserved : goal.loop-reply-preserved
loop-reply-preserved g c = record {
  sent = lines_more _ _ c.loop-reply.piece _ c.put_reply.new.piece c.as_slice-reply-items.result.now c.loop-reply.reply-index _ c.loop-reply-test.true c.loop-reply.invariant.sent (rw c.reply-item.is at c.in_ok-put_reply.ensures.text);
  later = omega (arith, c.loop-reply.invariant.later, c.put_reply.ensures.cause.later);
}

pub returns-clause-text : goal.returns-clause-text
returns-clause-text g c =
    rw (← c.as_slice-reply-items.ensures) (lines_end _ _ c.loop-reply.piece _ c.send.result c.as_slice-reply-items.result.now c.loop-reply.reply-index c.loop-reply-test.false c.loop-reply.invariant.sent c.send.ensures.sent)
