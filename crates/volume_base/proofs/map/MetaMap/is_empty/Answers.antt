use Rattle.std.proofs.Common.{sym, ◌∙◌}
use Rattle.volume_base.proofs.PairLemmas.{no_entries}
use Rattle.volume_base.proofs.map.MetaMap.is_empty.Goals as goal

pub returns : goal.returns
returns c =
    let none = no_entries c.self.inside.values.entries in
    (λ t. sym c.self.view_is ∙ none.0 (c.is_empty.ensures.0 t), λ e. c.is_empty.ensures.1 (none.1 (c.self.view_is ∙ e)))
