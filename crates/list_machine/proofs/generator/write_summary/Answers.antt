use Rattle.std.proofs.Common.{◌≡◌, sym}
use Rattle.stream_base.specs.Writing.{writes_err}
use Rattle.line_text.specs.Pending.{puts_end}
use Rattle.list_machine.specs.Generator.{refusals}
use Rattle.list_machine.proofs.Generating.{nothing_summed, last_summed}
use Rattle.list_machine.proofs.generator.write_summary.Goals as goal

pub returns-in_default-clause-text : goal.returns-in_default-clause-text
returns-in_default-clause-text g c =
    nothing_summed _ c.args.count c.args.replies.now (sym (rw c.as_slice.ensures at c.in_default.ensures.value))

pub returns-in_err-put_summary-clause-text : goal.returns-in_err-put_summary-clause-text
returns-in_err-put_summary-clause-text g c =
    let last = sym (rw c.as_slice.ensures at c.in-Some.ensures.value) in
    let counted : c.count_refusals-refused.result ≡ refusals c.args.replies.now =
    rw c.as_slice-2.ensures at c.count_refusals-refused.ensures in
    let front = rw (c.new-piece.ensures, counted) at c.in_err-put_summary.ensures.text in
    rw (last_summed c.args.count c.args.replies.now _ last)
    (writes_err _ _ c.from_residual.result _ c.from_residual.ensures.0 front)

pub returns-clause-text : goal.returns-clause-text
returns-clause-text g c =
    let last = sym (rw c.as_slice.ensures at c.in-Some.ensures.value) in
    let counted : c.count_refusals-refused.result ≡ refusals c.args.replies.now =
    rw c.as_slice-2.ensures at c.count_refusals-refused.ensures in
    let sent = rw (c.new-piece.ensures, counted) at c.in_ok-put_summary.ensures.text in
    rw (last_summed c.args.count c.args.replies.now _ last)
    (puts_end _ _ _ _ c.send.result _ sent c.send.ensures.sent)
