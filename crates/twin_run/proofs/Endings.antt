-- How a program ends.
use Rattle.std.proofs.Common.{◌≡◌, ◌⊎◌, ◌∙◌, inl, inr, ℕ, List, [], Option, refl, sym, subst, arith}
use Rattle.std.specs.Prelude.{Result, Ok, Err}
use Rattle.std.specs.Io.KnownBytes.{Appends}
use Rattle.stream_base.specs.Writing.{Writes}
use Rattle.codec_base.specs.Causes.{HasCause, Rose}
use Rattle.line_text.specs.Lines.{lines_of}
use Rattle.volume_base.specs.Moments.{Image, present}
use Rattle.volume_base.specs.Volume as disk
use Rattle.command_text.specs.declared.command.Command.{Command}
use Rattle.command_text.specs.Text.{text_of}
use Rattle.command_text.proofs.CommandLines.{bad_clash}
use Rattle.list_machine.proofs.Generating.{nothing_added}
use Rattle.list_machine.specs.Config.{standard_config}
use Rattle.list_machine.specs.Generator.{summary_of}
use Rattle.list_machine.specs.Starts.{OfEachStart, opened_from}
use Rattle.list_machine.specs.Trace.{trace}
use Rattle.twin_run.specs.declared.ending.Fault.{Fault}
use Rattle.twin_run.specs.declared.ending.Fault.TheVariants as fault
use Rattle.twin_run.specs.declared.ending.Status.{Status}
use Rattle.twin_run.specs.declared.ending.Status.TheVariants.{BadWords, BadLine, ReadFault, TooLong, Volume, Corrupt, Done, WriteFault, Memory}
use Rattle.twin_run.specs.declared.words.Task.{Task}
use Rattle.twin_run.specs.declared.words.Task.TheVariants.{Commands, Generate}
use Rattle.twin_run.specs.Faults.{IsCorrupt}
use Rattle.twin_run.specs.Outcome.{AreBegun, WritesOrFails, AreToRun, IsEarly, IsReadStatus, HasWrittenSoFar, IsRunStatus, output_of, fault_status}
use Rattle.twin_run.specs.Words.{WordsSay}
use Rattle.twin_run.proofs.RunMoments.{none_passed}

-- of no reply nothing is written
none_out : (task : Task) → output_of task [] ≡ []
unfolding text_of summary_of
none_out Commands = refl
none_out (Generate number count) = refl

nothing_out : (task : Task) (w : Option (List ℕ)) (faults : ℕ)
    → WritesOrFails w w faults faults (output_of task [])
nothing_out task w faults = inl (subst (λ (t : List ℕ). Appends w w t) (sym (none_out task)) (nothing_added w))

none_said : (tells : Type 0) (image : Image) (commands : List Command) → AreBegun tells image commands []
unfolding trace
none_said tells image commands = record {
  fewer = omega arith;
  one_root = tt;
  told = λ told s start clear. record { front = refl; fewer = omega arith };
}

pub wrote_nothing : (tells : Type 0) (now : disk.State) (task : Task) (commands : List Command) (w : Option (List ℕ))
    (faults : ℕ) → HasWrittenSoFar tells now now task commands w w faults faults
wrote_nothing tells now task commands w faults = (
  [],
  record {
    replies = none_said tells (present now) commands;
    stood = λ told s begins. none_passed standard_config s (opened_from standard_config s (present now)) commands now 0
        refl begins.stands;
  },
  nothing_out task w faults,
)

-- a text was written, or a front of it where the sink failed
pub wrote_so : {E : Type 0} (w w' : Option (List ℕ)) (f f' : ℕ) (text : List ℕ) (r : Result (Unit {0}) E)
    → Writes w w' r text → HasCause f f' r → WritesOrFails w w' f f' text
wrote_so w w' f f' text (Ok x) wrote cause = inl wrote
wrote_so w w' f f' text (Err e) wrote cause = inr (cause.failed, wrote)

-- a run that a fault ended has no end of a whole run
pub not_whole : (f : Fault) → (fault_status f ≡ Done) ⊎ (fault_status f ≡ WriteFault) → ⊥
not_whole fault.Volume is = elim is [ inl e ↦ cc | inr e ↦ cc ]
not_whole (fault.Corrupt at) is = elim is [ inl e ↦ cc | inr e ↦ cc ]
not_whole fault.Memory is = elim is [ inl e ↦ cc | inr e ↦ cc ]

-- one end is no other
pub never_corrupt : (s : Status) → s ≡ Volume → s ≡ Corrupt → ⊥
never_corrupt s is at = let same : Volume ≡ Corrupt = sym is ∙ at in cc

pub never_short : (s : Status) → s ≡ Memory → s ≡ Corrupt → ⊥
never_short s is at = let same : Memory ≡ Corrupt = sym is ∙ at in cc

-- what has come of a run with its fault
pub stopped_so : (tells : Type 0) (old new : disk.State) (task : Task) (commands : List Command)
    (w w' : Option (List ℕ)) (f f' : ℕ) (e : Fault) → (e ≡ fault.Volume → Rose old.faults new.faults)
    → (tells → OfEachStart standard_config (present old) commands (λ now. IsCorrupt e → ⊥))
    → HasWrittenSoFar tells old new task commands w w' f f'
    → IsRunStatus tells old new task commands w w' f f' (fault_status e)
stopped_so tells old new task commands w w' f f' fault.Volume rose corrupt wrote = (rose refl, wrote)
stopped_so tells old new task commands w w' f f' (fault.Corrupt at) rose corrupt wrote =
    (λ told s start clear. corrupt told s start clear tt, wrote)
stopped_so tells old new task commands w w' f f' fault.Memory rose corrupt wrote = wrote

-- a run that was begun doesn't end early
pub not_early : (tells : Type 0) (old new : disk.State) (task : Task) (commands : List Command)
    (w w' : Option (List ℕ)) (f f' : ℕ) (s : Status)
    → IsRunStatus tells old new task commands w w' f f' s → IsEarly s → ⊥
not_early tells old new task commands w w' f f' BadWords run early = run
not_early tells old new task commands w w' f f' (BadLine n) run early = run
not_early tells old new task commands w w' f f' ReadFault run early = run
not_early tells old new task commands w w' f f' TooLong run early = run
not_early tells old new task commands w w' f f' Done run early = early
not_early tells old new task commands w w' f f' WriteFault run early = early
not_early tells old new task commands w w' f f' Volume run early = early
not_early tells old new task commands w w' f f' Corrupt run early = early
not_early tells old new task commands w w' f f' Memory run early = early

-- an end before the run is that of words that say the input's commands
pub early_reads : (words : List (List ℕ)) (task : Task) (s : Status) → WordsSay words task
    → ((number count : ℕ) → task ≡ Generate number count → s ≡ Memory) → IsEarly s → WordsSay words Commands
early_reads words Commands s said memory early = said
early_reads words (Generate number count) s said memory early =
    absurd (subst IsEarly (memory number count refl) early)

-- an input that says commands is read, or there is no memory
valid_read : (left left' : Option (List ℕ)) (f f' : ℕ) (s : Status) (commands : List Command)
    → IsReadStatus left left' f f' s → AreToRun Commands left commands → (Rose f f' → ⊥) → (s ≡ Done) ⊎ (s ≡ Memory)
valid_read left left' f f' (BadLine n) commands why valid none = absurd
    (bad_clash (lines_of valid.0) n commands (rw valid.1 at why.1) valid.3)
valid_read left left' f f' ReadFault commands why valid none = absurd (none why)
valid_read left left' f f' TooLong commands why valid none =
    let long = rw valid.1 at why in
    let within = valid.2 in
    absurd (omega (arith, long, within))
valid_read left left' f f' Memory commands why valid none = inr refl
valid_read left left' f f' BadWords commands why valid none = absurd why
valid_read left left' f f' Done commands why valid none = absurd why
valid_read left left' f f' WriteFault commands why valid none = absurd why
valid_read left left' f f' Volume commands why valid none = absurd why
valid_read left left' f f' Corrupt commands why valid none = absurd why

-- so the commands of a task are there, or there is no memory
pub valid_task : (words : List (List ℕ)) (task : Task) (left left' : Option (List ℕ)) (f f' : ℕ) (s : Status)
    (commands : List Command) → WordsSay words task
    → IsReadStatus left left' f f' s → ((number count : ℕ) → task ≡ Generate number count → s ≡ Memory)
    → AreToRun task left commands → (WordsSay words Commands → Rose f f' → ⊥) → (s ≡ Done) ⊎ (s ≡ Memory)
valid_task words Commands left left' f f' s commands said why memory valid none =
    valid_read left left' f f' s commands why valid (none said)
valid_task words (Generate number count) left left' f f' s commands said why memory valid none =
    inr (memory number count refl)

-- a run in which nothing has failed and nothing clashes is answered, or there is no memory
pub valid_run : (tells : Type 0) (old new : disk.State) (task : Task) (commands : List Command)
    (w w' : Option (List ℕ)) (f f' : ℕ) (s : Status)
    → IsRunStatus tells old new task commands w w' f f' s → (s ≡ Corrupt → ⊥) → (Rose f f' → ⊥)
    → (Rose old.faults new.faults → ⊥) → (s ≡ Done) ⊎ (s ≡ Memory)
valid_run tells old new task commands w w' f f' Done run clear sink volume = inl refl
valid_run tells old new task commands w w' f f' Memory run clear sink volume = inr refl
valid_run tells old new task commands w w' f f' WriteFault run clear sink volume = absurd (sink run.0)
valid_run tells old new task commands w w' f f' Volume run clear sink volume = absurd (volume run.0)
valid_run tells old new task commands w w' f f' Corrupt run clear sink volume = absurd (clear refl)
valid_run tells old new task commands w w' f f' BadWords run clear sink volume = absurd run
valid_run tells old new task commands w w' f f' (BadLine n) run clear sink volume = absurd run
valid_run tells old new task commands w w' f f' ReadFault run clear sink volume = absurd run
valid_run tells old new task commands w w' f f' TooLong run clear sink volume = absurd run
