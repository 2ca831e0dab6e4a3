use Rattle.list_machine.proofs.VerifyLemmas.{verified}
use Rattle.twin_run.proofs.laws.proofs_verify.Goals as goal

pub returns : goal.returns
returns c config s n a count p good is = verified s n a count p good.good.ops.few c.answers_verify_law.ensures is
