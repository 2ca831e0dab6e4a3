use Rattle.std.proofs.Common.{ap, ◌∙◌}
use Rattle.std.specs.FinMap.{entries}
use Rattle.volume_base.specs.Pairs.{pairs_of}
use Rattle.volume_base.proofs.PairLemmas.{entries_in_order}
use Rattle.volume_base.proofs.map.MetaMap.entries.Goals as goal

pub returns-clause-order : goal.returns-clause-order
returns-clause-order c = ap pairs_of c.iter.ensures.rest ∙ entries_in_order c.self.inside.values.entries c.iter.ensures.ordered ∙ ap entries c.self.view_is
