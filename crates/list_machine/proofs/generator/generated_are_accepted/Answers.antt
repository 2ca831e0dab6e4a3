use Rattle.list_machine.proofs.Accepted.{all_accepted}
use Rattle.list_machine.proofs.generator.generated_are_accepted.Goals as goal

pub returns : goal.returns
returns c = all_accepted
