use Rattle.list_machine.proofs.RunLaws.{storage_keeps}
use Rattle.list_machine.proofs.laws.storage_keeps_lists.Goals as goal

pub returns : goal.returns
returns c = storage_keeps
