use Rattle.list_machine.proofs.RunLaws.{questions_are_kept}
use Rattle.list_machine.proofs.laws.questions_keep.Goals as goal

pub returns : goal.returns
returns c = questions_are_kept
