use Rattle.list_machine.proofs.CommitProofs.{commits_verified}
use Rattle.twin_run.proofs.laws.commit_proofs_verify.Goals as goal

pub returns : goal.returns
returns c = commits_verified c.answers_verify_law.ensures
