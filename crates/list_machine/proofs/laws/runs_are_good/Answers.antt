use Rattle.list_machine.proofs.RunGood.{are_good}
use Rattle.list_machine.proofs.laws.runs_are_good.Goals as goal

pub returns : goal.returns
returns c = are_good
