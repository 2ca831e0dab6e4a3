use Rattle.codec_base.specs.Reads.{one_value}
use Rattle.journal_base.proofs.ItemLemmas.{spells_cut, spells_item, same_item}
use Rattle.journal_base.proofs.laws.run_laws.Goals as goal

pub returns-clause-cut : goal.returns-clause-cut
returns-clause-cut g c list log to = spells_cut _ list log to

pub returns-clause-item : goal.returns-clause-item
returns-clause-item g c list log position x = spells_item _ list log position x

pub returns-clause-one_item : goal.returns-clause-one_item
returns-clause-one_item g c log position x y allowed_x allowed_y at_x at_y = one_value _ _ _ (g.met.T.Read.lawful c.args.cfg.now) x y allowed_x allowed_y (same_item log position _ _ at_x at_y)
