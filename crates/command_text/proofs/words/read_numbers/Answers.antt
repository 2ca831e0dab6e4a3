use Rattle.command_text.proofs.NumberWords.{none_read, one_more_read, all_read, not_read}
use Rattle.command_text.proofs.words.read_numbers.Goals as goal

pub loop-word-init : goal.loop-word-init
loop-word-init c = rw c.new-numbers.ensures (none_read c.args.words)

pub returns-in_default-parse_number-clause-numbers : goal.returns-in_default-parse_number-clause-numbers
returns-in_default-parse_number-clause-numbers c =
    let so_far = rw c.in-Some.ensures at c.loop-word.invariant in
    not_read c.args.words c.loop-word.numbers c.in-Some.word.now c.next_word.new.self so_far c.in_default-parse_number.ensures

pub loop-word-preserved : goal.loop-word-preserved
loop-word-preserved c =
    let so_far = rw c.in-Some.ensures at c.loop-word.invariant in
    one_more_read c.args.words c.loop-word.numbers c.push.new.self c.in-Some.word.now c.in-Some-parse_number.number c.next_word.new.self so_far c.in-Some-parse_number.ensures c.in_ok-push.ensures.ok

pub returns-clause-numbers : goal.returns-clause-numbers
returns-clause-numbers c =
    all_read c.args.words c.loop-word.numbers (rw c.in_default.ensures.0 at c.loop-word.invariant)
