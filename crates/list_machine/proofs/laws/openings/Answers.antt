use Rattle.list_machine.proofs.OpeningLaws.{opens_well, opens_fresh}
use Rattle.list_machine.proofs.laws.openings.Goals as goal

pub returns-clause-good : goal.returns-clause-good
returns-clause-good c = opens_well

pub returns-clause-empty : goal.returns-clause-empty
returns-clause-empty c = opens_fresh
