use Rattle.std.proofs.Common.{sym, ◌∙◌, ap}
use Rattle.std.specs.Option.{option_copied}
use Rattle.line_text.specs.Lines.{words_left}
use Rattle.line_text.proofs.LineLemmas.{word_found, word_last}
use Rattle.line_text.proofs.lines.Words.next_word.Goals as goal

pub returns-in-Some : goal.returns-in-Some
returns-in-Some c = sym c.self.view_is ∙ ap (λ r. words_left (option_copied r)) c.in_ok-text.was ∙ word_found c.in_ok-text.text.now c.in-Some.end c.in-Some.ensures

pub returns-in-None : goal.returns-in-None
returns-in-None c = sym c.self.view_is ∙ ap (λ r. words_left (option_copied r)) c.in_ok-text.was ∙ word_last c.in_ok-text.text.now c.in-None.ensures
