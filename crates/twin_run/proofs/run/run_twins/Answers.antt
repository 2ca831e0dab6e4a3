use Rattle.std.specs.Prelude.{Err}
use Rattle.std.proofs.Common.{ap, length}
use Rattle.volume_base.specs.Moments.{present}
use Rattle.list_machine.specs.Starts.{opened_from}
use Rattle.twin_run.proofs.RunLemmas.{none_begun, none_tell, not_risen, only_memory}
use Rattle.twin_run.proofs.RunMoments.{none_passed}
use Rattle.twin_run.proofs.run.run_twins.Goals as goal

pub returns-in_default-clause-so_far : goal.returns-in_default-clause-so_far
returns-in_default-clause-so_far g c = λ told s start clear. none_begun _ _ _ _ c.new-replies.ensures

pub returns-in_default-clause-images_so_far : goal.returns-in_default-clause-images_so_far
returns-in_default-clause-images_so_far g c = λ told s begins.
    let config = c.args.config.now in
    let now = g.V.Volume.state c.args.volume.now in
    none_passed config s (opened_from config s (present now)) c.args.commands.now now _ (ap length c.new-replies.ensures)
    begins.stands

pub returns-in_default-clause-equal_so_far : goal.returns-in_default-clause-equal_so_far
returns-in_default-clause-equal_so_far g c = none_tell _ c.new-replies.ensures

pub returns-in-Err-clause-complete : goal.returns-in-Err-clause-complete
returns-in-Err-clause-complete g c = λ steady low told s start clear.
    let changes = c.in-Err.ensures.changes in
    only_memory c.in-Err.fault (λ e. not_risen _ _ (changes.steady steady).faults low (changes.failed (ap Err e)))
    (c.in-Err.ensures.corrupt told s start clear)
