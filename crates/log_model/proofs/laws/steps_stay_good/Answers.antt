use Rattle.log_model.proofs.StepLemmas as steps
use Rattle.log_model.proofs.laws.steps_stay_good.Goals as goal

pub returns : goal.returns
returns g c = λ same decide admits first. steps.steps_stay_good g.O.Logged.meaning admits first same decide
