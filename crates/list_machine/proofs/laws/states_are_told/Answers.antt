use Rattle.list_machine.proofs.StateLaws.{are_told}
use Rattle.list_machine.proofs.laws.states_are_told.Goals as goal

pub returns : goal.returns
returns c = are_told c.args.limit c.ranges.limit.fits c.no_clash_law.ensures
