use Rattle.line_text.proofs.LineLemmas.{no_words}
use Rattle.line_text.proofs.lines.Words.is_empty.Goals as goal

pub returns : goal.returns
returns c = rw (← c.self.view_is) (no_words c.self.inside.rest c.is_none.result c.is_none.ensures)
