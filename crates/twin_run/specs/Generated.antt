-- What comes of generated commands on a fresh volume.
use Rattle.std.specs.Prelude.{◌≡◌, ℕ, List, Option}
use Rattle.std.specs.Io.KnownBytes.{Appends}
use Rattle.volume_base.specs.Moments.{Image}
use Rattle.log_model.specs.Stored.{IsEmpty}
use Rattle.command_text.specs.declared.command.Reply.{Reply}
use Rattle.list_machine.specs.Config.{standard_config}
use Rattle.list_machine.specs.Generator.{generated, first_round, round_after, summary_lines}
use Rattle.list_machine.specs.Starts.{names_in}
use Rattle.list_machine.specs.Step.{root_of_list}
use Rattle.list_machine.specs.Trace.{HasNoClash, fresh_state, state_after}
use Rattle.twin_run.specs.declared.words.Task.TheVariants.{Generate}
use Rattle.twin_run.specs.Words.{WordsSay}

-- The four lines are written: of the rounds, of the size that these count, of none refused, and of the root of the list
-- then.
pub record IsSummedUp (number count : ℕ) (written written' : Option (List ℕ)) : Type 0 where
  pub last : Reply
  pub size : last.size ≡ (round_after count (first_round number)).size
  pub root : last.full_root ≡ root_of_list (state_after standard_config fresh_state (generated number count)).ops
  pub wrote : Appends written written' (summary_lines count 0 last)

-- It holds of the number and the count of generated commands, where the words ask for these, the volume tells what it
-- holds, and that is nothing, and nothing clashes that is hashed for the lists of the run.
abbrev pub OfFreshRun : List (List ℕ) → Type 0 → Image → (ℕ → ℕ → Type 0) → Type 0
OfFreshRun words tells image holds =
    (number count : ℕ) → WordsSay words (Generate number count) → tells → IsEmpty (names_in standard_config) image
    → HasNoClash standard_config fresh_state (generated number count) → holds number count
