use Rattle.list_machine.proofs.RunGood.{stay_good}
use Rattle.list_machine.proofs.laws.steps_stay_good.Goals as goal

pub returns : goal.returns
returns c = stay_good
