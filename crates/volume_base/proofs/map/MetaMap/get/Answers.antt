use Rattle.std.proofs.Common.{ap, sym, ◌∙◌}
use Rattle.std.specs.FinMap.{get}
use Rattle.volume_base.proofs.PairLemmas.{get_entry}
use Rattle.volume_base.proofs.map.MetaMap.get.Goals as goal

pub returns : goal.returns
returns c = c.get.ensures.value ∙ sym (get_entry c.self.inside.values.entries c.args.key.now) ∙ ap (λ m. get m c.args.key.now) c.self.view_is
