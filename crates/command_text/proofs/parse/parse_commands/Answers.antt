use Rattle.std.proofs.Common.{◌≡◌, ◌+◌, ◌<◌, ◌^◌, suc, length, ◌∙◌, ap, arith}
use Rattle.std.proofs.lemmas.List.{length-append}
use Rattle.std.proofs.lemmas.Result.{err_from_is_err_and}
use Rattle.line_text.specs.Lines.{lines_of}
use Rattle.command_text.proofs.CommandLines.{read_more, read_bad, read_all_lines, one_reading, only_memory}
use Rattle.command_text.proofs.parse.parse_commands.Goals as goal

pub loop-line-preserved : goal.loop-line-preserved
loop-line-preserved c =
    let so_far = rw c.in-Some.ensures at c.loop-line.invariant in
    read_more (lines_of c.args.input.now) c.loop-line.commands.items c.push_command.new.commands.items c.loop-line.number c.in-Some.line.now c.next_line.new.self c.in_ok-push_command.ensures.ok so_far

pub returns-in_err-push_command-clause-bad : goal.returns-in_err-push_command-clause-bad
returns-in_err-push_command-clause-bad c =
    let so_far = rw c.in-Some.ensures at c.loop-line.invariant in
    let cause = read_bad (lines_of c.args.input.now) c.loop-line.commands.items c.loop-line.number c.in-Some.line.now c.next_line.new.self c.in_err-push_command.field-0.0 c.in_err-push_command.ensures.bad so_far in
    let p = err_from_is_err_and c.from_residual.result c.from_residual.ensures.1 in
    rw (p.1, p.2) cause

pub returns-in_err-push_command-clause-again : goal.returns-in_err-push_command-clause-again
returns-in_err-push_command-clause-again c commands said =
    let so_far = rw c.in-Some.ensures at c.loop-line.invariant in
    let cause = read_bad (lines_of c.args.input.now) c.loop-line.commands.items c.loop-line.number c.in-Some.line.now c.next_line.new.self c.in_err-push_command.field-0.0 c.in_err-push_command.ensures.bad so_far in
    let p = err_from_is_err_and c.from_residual.result c.from_residual.ensures.1 in
    rw (p.1, p.2) (only_memory (lines_of c.args.input.now) commands c.in_err-push_command.field-0.0 cause said)

pub returns-clause-again : goal.returns-clause-again
returns-clause-again c commands said =
    let whole = rw c.in_default.ensures.0 at c.loop-line.invariant in
    one_reading (lines_of c.args.input.now) c.loop-line.commands.items commands (read_all_lines (lines_of c.args.input.now) c.loop-line.commands.items c.loop-line.number whole) said

pub overflow_add-number : goal.overflow_add-number
overflow_add-number c =
    let i = c.loop-line.invariant in
    let all : length (lines_of c.args.input.now) ≡ length i.before + length c.loop-line.lines = ap length i.parts ∙ length-append i.before c.loop-line.lines in
    let more : length c.loop-line.lines ≡ suc (length c.next_line.new.self) = ap length c.in-Some.ensures in
    let few : length (lines_of c.args.input.now) < 2 ^ 64 = rw c.new-lines.ensures.lines at c.new-lines.ensures.few in
    omega (arith, all, more, few, i.count)
