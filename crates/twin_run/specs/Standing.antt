-- What a crash leaves of both databases.
use Rattle.std.specs.Prelude.{◌⊎◌, ℕ, ◌+◌, List, ◌∷◌, take, Result}
use Rattle.volume_base.specs.Moments.{Image, LeftAt, EachNow, Steps, Covers, present}
use Rattle.volume_base.specs.Volume as volume
use Rattle.tree_shape.specs.Mmr.{mmr}
use Rattle.tree_shape.specs.Sha256Codec.{bytes_of}
use Rattle.log_model.specs.Machine.{State}
use Rattle.log_model.specs.Stored.{StandsFor}
use Rattle.command_text.specs.declared.command.Command.{Command}
use Rattle.list_machine.specs.Config.{Config}
use Rattle.list_machine.specs.Operation.{Operation, meaning, sha}
use Rattle.list_machine.specs.Starts.{IsStart, names_in, opened_from}
use Rattle.list_machine.specs.Trace.{HasNoClash, states_from}

-- An image has, under a configuration's names, what stands for a state.
abbrev pub Stands : Config → State Operation → Image → Type 0
Stands config s image = StandsFor mmr sha bytes_of meaning (names_in config) s image

-- Where each image that a crash may leave stands for the one state, a call takes them to the other: up to a turn each
-- stands for the one, and from it on for the other; after an error they may not have turned.
abbrev pub TakesTo : {T E : Type 0} → Config → State Operation → State Operation → volume.State → volume.State
    → Result T E → Type 0
TakesTo config before after old new result = EachNow (Stands config before) old →
    Steps LeftAt (Stands config before) (Stands config after) old new result

-- At each moment from the one to the other a crash leaves what stands for these states, one after another.
abbrev pub Covered : Config → List (State Operation) → volume.State → volume.State → Type 0
Covered config states old new = Covers (LeftAt new) (Stands config) old.clock new.clock states

-- Each moment of a whole run that began with what stands for a state, and opened in another, lies in one of its steps.
abbrev pub CoversAll : Config → State Operation → State Operation → List Command → volume.State → volume.State → Type 0
CoversAll config first opened commands old new = Covered config (first ∷ states_from config opened commands) old new

-- Of a run that ended with so many replies each lies in a step that was answered, or in the one that was running: the
-- last state is the one before that step, or behind it.
abbrev pub CoversSome : Config → State Operation → State Operation → List Command → ℕ → volume.State → volume.State
    → Type 0
CoversSome config first opened commands replies old new =
    let states = first ∷ states_from config opened commands in
    Covered config (take (replies + 1) states) old new ⊎ Covered config (take (replies + 2) states) old new

-- A run of these commands may begin on a volume where each image that a crash may leave stands for a good state
-- without batches, and nothing clashes that is hashed for the lists of the run.
pub record BeginsAt (config : Config) (commands : List Command) (s : State Operation) (now : volume.State)
    : Type 0 where
  pub start : IsStart config s (present now)
  pub stands : EachNow (Stands config s) now
  pub clash : HasNoClash config (opened_from config s (present now)) commands
