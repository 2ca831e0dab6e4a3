use Rattle.command_text.proofs.CommandLines.{no_start, no_zero}
use Rattle.command_text.proofs.words.read_proof.Goals as goal

pub returns-in_err-start : goal.returns-in_err-start
returns-in_err-start c =
    let size = c.in_ok-size.ensures.number in
    rw c.from_residual-in_err-start.ensures (no_start c.args.words c.next_number.new.words size.0 size.1 c.in_err-start.ensures.number)

pub returns-in_err-count : goal.returns-in_err-count
returns-in_err-count c =
    let size = c.in_ok-size.ensures.number in
    let start = c.in_ok-start.ensures.number in
    let count = c.in_ok-only_number.ensures in
    rw c.from_residual-in_err-count.ensures
    (no_zero c.args.words c.next_number.new.words c.next_number-2.new.words size.0 start.0 count.0 size.1 start.1 count.1 (rw c.in_err-count.ensures at count.2))
