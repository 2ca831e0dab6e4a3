use Rattle.std.proofs.Common.{◌∙◌}
use Rattle.journal_base.proofs.ItemLemmas.{spells_item, same_item}
use Rattle.journal_base.proofs.journal.JournalContiguous.read.Goals as goal

pub returns-in-Ok-clause-listed : goal.returns-in-Ok-clause-listed
returns-in-Ok-clause-listed g c told list x run low is allowed =
    let here = rw c.as_str.ensures.value at (c.in_ok-bytes.ensures.item told) in
    let same = same_item _ _ _ _ here (spells_item _ list _ _ x run low is) in
    let gives = c.in-Ok.ensures.only x allowed (c.as_slice.ensures ∙ same) in
    cc gives
