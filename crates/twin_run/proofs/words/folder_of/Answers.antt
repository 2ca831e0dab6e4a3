use Rattle.std.proofs.Common.{List, ℕ, sym, subst, ◌∙◌}
use Rattle.std.specs.Prelude.{string_bytes}
use Rattle.twin_run.specs.Words.{WordsName}
use Rattle.twin_run.proofs.WordForms.{words_parts, folder_named}
use Rattle.twin_run.proofs.words.folder_of.Goals as goal

pub returns-in-len1-up-clause-other : goal.returns-in-len1-up-clause-other
returns-in-len1-up-clause-other c = λ none.
    let parts = words_parts c.args.words.now _ c.in-len1-up.len_at_least c.first-item.is in
    let folder = rw c.as_str.ensures.value at (c.is_folder.ensures.0 c.if-is_folder.true) in
    let first = string_bytes c.first-item.result in
    absurd (none first (subst (λ (ws : List (List ℕ)). WordsName ws first) (sym parts)
    (folder_named _ _ c.parse_task.result folder c.parse_task.ensures (sym c.is_some.ensures ∙ c.if-is_some.true))))
