use Rattle.twin_run.proofs.WordForms.{too_many}
use Rattle.twin_run.proofs.words.parse_generate.Goals as goal

pub returns-then-count-gt-MOST_ROUNDS : goal.returns-then-count-gt-MOST_ROUNDS
returns-then-count-gt-MOST_ROUNDS c =
    let count = rw c.as_bytes-2.ensures.value at c.in_ok-count.ensures in
    too_many _ _ c.args.count.now c.in_ok-count.count count c.if-count-gt-MOST_ROUNDS.true
