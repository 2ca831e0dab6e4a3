use Rattle.std.proofs.Common.{sym}
use Rattle.std.proofs.lemmas.Bool.{eqb-true}
use Rattle.line_text.proofs.NumberLemmas.{number_empty, number_plus, number_zero, number_zeros, number_no_text, number_unread, number_read}
use Rattle.line_text.proofs.parse.parse_number.Goals as goal

pub returns-then-is_empty : goal.returns-then-is_empty
returns-then-is_empty c = number_empty c.args.word.now (eqb-true _ _ (sym c.if-is_empty.ensures))

pub returns-then-word-eq43 : goal.returns-then-word-eq43
returns-then-word-eq43 c = number_plus c.args.word.now c.if-word-eq43.true

pub returns-then-word-eq1 : goal.returns-then-word-eq1
returns-then-word-eq1 c = number_zero c.args.word.now c.if-word-eq48.true c.if-word-eq1.true

pub returns-else-word-eq1 : goal.returns-else-word-eq1
returns-else-word-eq1 c = number_zeros c.args.word.now c.if-word-eq48.true c.if-word-eq1.false

pub returns-in_default : goal.returns-in_default
returns-in_default c = number_no_text c.args.word.now c.in_default.ensures.cases.0

pub returns-in_default-parse : goal.returns-in_default-parse
returns-in_default-parse c =
    let parsed = rw c.in-Ok.ensures.cases.0 at c.parse.ensures.value.0 in
    number_unread c.args.word.now c.parse.result c.in_default-parse.field-0 parsed c.in_default-parse.is

pub returns : goal.returns
returns c =
    let parsed = rw c.in-Ok.ensures.cases.0 at c.parse.ensures.value.0 in
    number_read c.args.word.now c.parse.result c.in-Ok-parse.number parsed c.in-Ok-parse.is c.if-word-eq43.false c.if-word-eq48.false
