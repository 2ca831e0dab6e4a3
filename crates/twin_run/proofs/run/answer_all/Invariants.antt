use Rattle.std.proofs.Common.{◌≡◌, ◌≤◌, ◌+◌, ◌++◌, drop, length, take}
use Rattle.log_model.specs.Machine.{State}
use Rattle.volume_base.specs.Moments.{present}
use Rattle.volume_base.specs.Names.{NamesCall}
use Rattle.volume_base.proofs.JoinLemmas.{Went}
use Rattle.list_machine.specs.Operation.{Operation}
use Rattle.list_machine.specs.Starts.{OfEachStart, opened_from, twin_names}
use Rattle.list_machine.specs.Trace.{trace, replies_from, state_after, TellOneRoot}
use Rattle.list_machine.proofs.RunGood.{IsOnWay}
use Rattle.twin_run.specs.Lasting.{LastsBehind}
use Rattle.twin_run.specs.Standing.{BeginsAt}
use Rattle.twin_run.specs.Twins.{AreShaped, AreOf, IsTwinsOf}
use Rattle.twin_run.proofs.RunMoments.{HasPassed}
use Rattle.twin_run.proofs.run.answer_all.Given as goal

abbrev pub invariant-loop-command : goal.invariant-loop-command
invariant-loop-command g l =
    let left = drop l.command-index l.commands in
    let old = g.V.Volume.state l.fn.volume in
    let now = g.V.Volume.state l.volume in record {
      shaped : AreShaped l.twins;
      of : AreOf l.config l.twins;
      told : g.V.Volume.tells → OfEachStart l.config (present old) l.commands (λ first.
          (s : State Operation) × IsTwinsOf l.config (present now) l.twins s
          × IsOnWay l.config first l.commands s left
          × (l.replies ++ replies_from l.config s left ≡ trace l.config first l.commands)
          × (state_after l.config s left ≡ state_after l.config first l.commands));
      equal : TellOneRoot l.replies;
      count : length l.replies ≡ l.command-index + 1;
      taken : l.twins.full.numbers.taken ≡ l.command-index;
      went : Went g.V.Volume.tells old now;
      names : g.V.Volume.tells → NamesCall (twin_names l.config) old now;
      within : l.command-index ≤ length l.commands;
      durable : g.V.Volume.tells → LastsBehind l.config now (take l.command-index l.commands);
      moments : (known : g.V.Volume.tells) (s : State Operation) (begins : BeginsAt l.config l.commands s old)
          → HasPassed l.config s (opened_from l.config s (present old)) l.commands l.command-index
          (told known s begins.start begins.clash).0 old now;
    }
