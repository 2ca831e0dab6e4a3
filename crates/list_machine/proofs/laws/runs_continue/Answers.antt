use Rattle.list_machine.proofs.RunLaws.{continues}
use Rattle.list_machine.proofs.laws.runs_continue.Goals as goal

pub returns : goal.returns
returns c = continues
