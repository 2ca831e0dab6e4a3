use Rattle.list_machine.proofs.RunLaws.{tell_lists}
use Rattle.list_machine.proofs.laws.replies_tell_lists.Goals as goal

pub returns : goal.returns
returns c = tell_lists
