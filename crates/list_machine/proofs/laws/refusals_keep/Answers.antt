use Rattle.list_machine.proofs.RunLaws.{keep}
use Rattle.list_machine.proofs.laws.refusals_keep.Goals as goal

pub returns : goal.returns
returns c = keep
