use Rattle.list_machine.proofs.RunLaws.{never_fall}
use Rattle.list_machine.proofs.laws.sizes_never_fall.Goals as goal

pub returns : goal.returns
returns c = never_fall
