use Rattle.std.proofs.Common.{arith}
use Rattle.std.specs.Prelude.{codes}
use Rattle.line_text.specs.Text.{titled}
use Rattle.line_text.specs.Pending.{puts_err}
use Rattle.command_text.proofs.EachText.{nothing_sent, each_front, each_more, each_end}
use Rattle.command_text.proofs.text.put_more_digests.Goals as goal

pub loop-digest-init : goal.loop-digest-init
loop-digest-init g c = record { sent = nothing_sent _ _; later = omega arith }

pub returns-in_err-put_digest-clause-text : goal.returns-in_err-put_digest-clause-text
returns-in_err-put_digest-clause-text g c =
    puts_err _ _ _ _ c.from_residual.result _ c.from_residual.ensures.0 (each_front (titled (codes ",")) _ _ _ c.loop-digest.piece _ c.args.digests.now c.loop-digest.digest-index _ c.loop-digest-test.true c.loop-digest.invariant.sent c.in_err-put_digest.ensures.text)

pub loop-digest-preserved : goal.loop-digest-preserved
loop-digest-preserved g c = record {
  sent = each_more (titled (codes ",")) _ _ _ c.loop-digest.piece _ c.put_digest.new.piece c.args.digests.now c.loop-digest.digest-index _ c.loop-digest-test.true c.loop-digest.invariant.sent c.in_ok-put_digest.ensures.text;
  later = omega (arith, c.loop-digest.invariant.later, c.put_digest.ensures.cause.later);
}

pub returns-clause-text : goal.returns-clause-text
returns-clause-text g c = each_end (titled (codes ",")) _ _ _ c.loop-digest.piece c.args.digests.now c.loop-digest.digest-index c.loop-digest-test.false c.loop-digest.invariant.sent
