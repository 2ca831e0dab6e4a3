use Rattle.list_machine.proofs.CommitProofs.{commits_are_proofs}
use Rattle.list_machine.proofs.laws.commit_proofs_are_proofs.Goals as goal

pub returns : goal.returns
returns c = commits_are_proofs
