use Rattle.list_machine.proofs.LeftStates.{left_reopen}
use Rattle.list_machine.proofs.laws.left_states_reopen.Goals as goal

pub returns : goal.returns
returns c = left_reopen
