use Rattle.std.proofs.Common.{◌<◌, length, sym, ◌∙◌, arith}
use Rattle.std.proofs.lemmas.Bool.{eqb-false}
use Rattle.line_text.proofs.LineLemmas.{line_found, line_last}
use Rattle.line_text.proofs.lines.Lines.next_line.Goals as goal

pub returns-in-Some : goal.returns-in-Some
returns-in-Some c = sym c.self.view_is ∙ line_found c.self.inside.rest.now c.in-Some.end c.in-Some.ensures

pub returns-in-None : goal.returns-in-None
returns-in-None c =
    let some : 0 < length c.self.inside.rest.now = (let ne = eqb-false _ _ (sym c.if-is_empty.ensures) in omega (arith, ne)) in
    sym c.self.view_is ∙ line_last c.self.inside.rest.now c.in-None.ensures some
