use Rattle.std.proofs.Common.{List, ℕ, sym, subst}
use Rattle.line_text.specs.Said.{IsTheOne}
use Rattle.twin_run.specs.Words.{WordsSay}
use Rattle.twin_run.proofs.WordForms.{words_parts, with_folder}
use Rattle.twin_run.proofs.words.parse_words.Goals as goal

pub returns-in-len1-up : goal.returns-in-len1-up
returns-in-len1-up c =
    let parts = words_parts c.args.words.now _ c.in-len1-up.len_at_least c.first-item.is in
    let folder = rw c.as_str.ensures.value at (c.is_folder.ensures.0 c.if-is_folder.true) in
    subst (λ (ws : List (List ℕ)). IsTheOne c.parse_task.result (WordsSay ws)) (sym parts)
    (with_folder _ _ c.parse_task.result folder c.parse_task.ensures)
