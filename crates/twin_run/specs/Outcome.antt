-- What has happened where the program ends.
use Rattle.std.specs.Prelude.{◌≡◌, ◌⊎◌, ℕ, ◌+◌, ◌<◌, ◌≤◌, List, length, Option, Some, IfSome}
use Rattle.std.specs.Io.KnownBytes.{Appends, IsAtEnd}
use Rattle.codec_base.specs.Causes.{Rose}
use Rattle.stream_base.specs.Writing.{WritesFront}
use Rattle.volume_base.specs.Moments.{Image, present}
use Rattle.volume_base.specs.Volume as disk
use Rattle.log_model.specs.Machine.{State}
use Rattle.command_text.specs.declared.command.Command.{Command}
use Rattle.command_text.specs.declared.command.Reply.{Reply}
use Rattle.line_text.specs.Lines.{lines_of}
use Rattle.command_text.specs.Grammar.{InputSays}
use Rattle.command_text.specs.Bad.{IsFirstBad}
use Rattle.command_text.specs.Text.{text_of}
use Rattle.list_machine.specs.Config.{standard_config}
use Rattle.list_machine.specs.Generator.{generated, summary_of}
use Rattle.list_machine.specs.Operation.{Operation}
use Rattle.list_machine.specs.Starts.{OfEachStart, IsLeft, opened_from}
use Rattle.list_machine.specs.Trace.{trace, state_after, IsBegun, TellOneRoot}
use Rattle.twin_run.specs.declared.ending.Fault.{Fault}
use Rattle.twin_run.specs.declared.ending.Fault.TheVariants as fault
use Rattle.twin_run.specs.declared.ending.Status.{Status}
use Rattle.twin_run.specs.declared.ending.Status.TheVariants.{BadWords, BadLine, ReadFault, TooLong, Volume, Corrupt, Done, WriteFault, Memory}
use Rattle.twin_run.specs.declared.words.Task.{Task}
use Rattle.twin_run.specs.declared.words.Task.TheVariants.{Commands, Generate}
use Rattle.twin_run.specs.Lasting.{LastsBehind}
use Rattle.twin_run.specs.Standing.{BeginsAt, CoversAll, CoversSome}
use Rattle.twin_run.specs.Words.{WordsSay}

-- The input was read to its end, and isn't too long.
pub record IsWhole (old new : Option (List ℕ)) : Type 0 where
  pub ended : IsAtEnd new
  pub within : IfSome old (λ bytes. length bytes ≤ 16777216)

-- The input was read to its end, and says these commands.
pub record IsInput (old new : Option (List ℕ)) (commands : List Command) : Type 0 where
  pub whole : IsWhole old new
  pub said : IfSome old (λ bytes. InputSays bytes commands)

-- A task runs these commands: those that the input says, or those that are generated, for which none is read.
abbrev pub Runs : Task → Option (List ℕ) → Option (List ℕ) → List Command → Type 0
Runs Commands old new commands = IsInput old new commands
Runs (Generate number count) old new commands = (new ≡ old) × (commands ≡ generated number count)

-- The words say this task, which runs these commands.
pub record IsAsked (words : List (List ℕ)) (left left' : Option (List ℕ)) (task : Task)
    (commands : List Command) : Type 0 where
  pub said : WordsSay words task
  pub runs : Runs task left left' commands

-- The words have a form, and these are the commands to run: generated ones, or those that the input says, which isn't
-- too long.
abbrev pub AreToRun : Task → Option (List ℕ) → List Command → Type 0
AreToRun Commands left commands =
    (bytes : List ℕ) × (left ≡ Some bytes) × (length bytes ≤ 16777216) × InputSays bytes commands
AreToRun (Generate number count) left commands = commands ≡ generated number count

pub record IsValid (words : List (List ℕ)) (left : Option (List ℕ)) (commands : List Command) : Type 0 where
  pub task : Task
  pub said : WordsSay words task
  pub to_run : AreToRun task left commands

-- What a task writes: the text of its replies, or the summary of the generated commands' run.
abbrev pub output_of : Task → List Reply → List ℕ
output_of Commands replies = text_of replies
output_of (Generate number count) replies = summary_of count replies

-- The replies of a run that opens in a state, under the program's configuration.
abbrev pub replies_to : State Operation → List Command → List Reply
replies_to now commands = trace standard_config now commands

-- What a run of these commands has said that began on these contents. It is known where the volume tells what it holds,
-- and that stands for a good state without batches, and nothing clashes.
module _ (tells : Type 0) (image : Image) (commands : List Command) (said : List Reply) where
  -- all replies, one to the opening and one to each command; in each the roots of both databases are one
  pub record AreReplies : Type 0 where
    pub count : length said ≡ length commands + 1
    pub one_root : TellOneRoot said
    pub told : tells → OfEachStart standard_config image commands (λ now. said ≡ replies_to now commands)

  -- the first ones, and not all
  pub record AreBegun : Type 0 where
    pub fewer : length said ≤ length commands
    pub one_root : TellOneRoot said
    pub told : tells → OfEachStart standard_config image commands (λ now. IsBegun said (replies_to now commands))

-- At each moment of a run of these commands a crash leaves what stands for one of the list machine's states, for that
-- before or behind the step that is running. It is known where each image that a crash may leave before the run stands
-- for a good state without batches, and nothing clashes.
module _ (commands : List Command) (old new : disk.State) where
  -- of a whole run
  abbrev pub StandsThroughout : Type 0
  StandsThroughout = (s : State Operation) → BeginsAt standard_config commands s old
      → CoversAll standard_config s (opened_from standard_config s (present old)) commands old new

  -- of one that ended with these replies
  abbrev pub StandsSoFar : List Reply → Type 0
  StandsSoFar said = (s : State Operation) → BeginsAt standard_config commands s old
      → CoversSome standard_config s (opened_from standard_config s (present old)) commands (length said) old new

-- A run of these commands has made these replies, and has taken the volume from one state to another.
module _ (tells : Type 0) (old new : disk.State) (commands : List Command) (said : List Reply) where
  -- It was whole. Where it began on what stands for a good state without batches, both logs hold what is kept of the
  -- state after it; what it says to last behind it outlasts a crash; and so it stood at each moment.
  pub record HasRun : Type 0 where
    pub replies : AreReplies tells (present old) commands said
    pub left : tells → OfEachStart standard_config (present old) commands
        (λ now. IsLeft standard_config (present new) (state_after standard_config now commands))
    pub lasting : tells → LastsBehind standard_config new commands
    pub stood : tells → StandsThroughout commands old new

  -- It ended with the first replies, and stood so at each moment until then.
  pub record HasBegun : Type 0 where
    pub replies : AreBegun tells (present old) commands said
    pub stood : tells → StandsSoFar commands old new said

-- A text was written, or a front of it where the sink failed.
abbrev pub WritesOrFails : Option (List ℕ) → Option (List ℕ) → ℕ → ℕ → List ℕ → Type 0
WritesOrFails old new faults faults' text = Appends old new text ⊎ (Rose faults faults' × WritesFront old new text)

-- What was run for the words on a volume, and written.
module _ (tells : Type 0) (old new : disk.State) (words : List (List ℕ))
    (left left' written written' : Option (List ℕ)) where
  -- a whole run, and the output of its replies
  pub record IsAnswered : Type 0 where
    pub task : Task
    pub commands : List Command
    pub asked : IsAsked words left left' task commands
    pub said : List Reply
    pub ran : HasRun tells old new commands said
    pub wrote : Appends written written' (output_of task said)

  -- or a front of it
  pub record IsCutOff : Type 0 where
    pub task : Task
    pub commands : List Command
    pub asked : IsAsked words left left' task commands
    pub said : List Reply
    pub ran : HasRun tells old new commands said
    pub wrote : WritesFront written written' (output_of task said)

  -- a run that ended early, and the output of its replies, or a front of it where the sink failed; what the volume held
  -- is at fault only where that stands for no good state without batches, or something clashes
  pub record IsStopped (corrupt : Type 0) (faults faults' : ℕ) : Type 0 where
    pub task : Task
    pub commands : List Command
    pub asked : IsAsked words left left' task commands
    pub said : List Reply
    pub began : HasBegun tells old new commands said
    pub wrote : WritesOrFails written written' faults faults' (output_of task said)
    pub fault : corrupt → tells → OfEachStart standard_config (present old) commands (λ now. ⊥)

-- The program ends before its run.
abbrev pub IsEarly : Status → Type 0
IsEarly BadWords = Unit {0}
IsEarly (BadLine n) = Unit {0}
IsEarly ReadFault = Unit {0}
IsEarly TooLong = Unit {0}
IsEarly Done = ⊥
IsEarly WriteFault = ⊥
IsEarly Volume = ⊥
IsEarly Corrupt = ⊥
IsEarly Memory = ⊥

-- Why the input isn't read as commands; want of memory may come at any time.
abbrev pub IsReadStatus : Option (List ℕ) → Option (List ℕ) → ℕ → ℕ → Status → Type 0
IsReadStatus left left' faults faults' (BadLine n) =
    IsWhole left left' × IfSome left (λ bytes. IsFirstBad (lines_of bytes) n)
IsReadStatus left left' faults faults' ReadFault = Rose faults faults'
IsReadStatus left left' faults faults' TooLong = IfSome left (λ bytes. 16777216 < length bytes)
IsReadStatus left left' faults faults' Memory = Unit {0}
IsReadStatus left left' faults faults' BadWords = ⊥
IsReadStatus left left' faults faults' Done = ⊥
IsReadStatus left left' faults faults' WriteFault = ⊥
IsReadStatus left left' faults faults' Volume = ⊥
IsReadStatus left left' faults faults' Corrupt = ⊥

-- What a run of these commands has left of a volume and in a sink, and why it didn't end otherwise.
module _ (tells : Type 0) (old new : disk.State) (task : Task) (commands : List Command)
    (written written' : Option (List ℕ)) (faults faults' : ℕ) where
  abbrev pub HasWrittenSoFar : Type 0
  HasWrittenSoFar =
      (said : List Reply) × HasBegun tells old new commands said
      × WritesOrFails written written' faults faults' (output_of task said)

  abbrev pub IsRunStatus : Status → Type 0
  IsRunStatus Done =
      (said : List Reply) × HasRun tells old new commands said × Appends written written' (output_of task said)
  IsRunStatus WriteFault = Rose faults faults' × ((said : List Reply) × HasRun tells old new commands said
      × WritesFront written written' (output_of task said))
  IsRunStatus Volume = Rose old.faults new.faults × HasWrittenSoFar
  IsRunStatus Corrupt = (tells → OfEachStart standard_config (present old) commands (λ now. ⊥)) × HasWrittenSoFar
  IsRunStatus Memory = HasWrittenSoFar
  IsRunStatus BadWords = ⊥
  IsRunStatus (BadLine n) = ⊥
  IsRunStatus ReadFault = ⊥
  IsRunStatus TooLong = ⊥

-- How the program ends after a fault of its run.
abbrev pub fault_status : Fault → Status
fault_status fault.Volume = Volume
fault_status (fault.Corrupt at) = Corrupt
fault_status fault.Memory = Memory
