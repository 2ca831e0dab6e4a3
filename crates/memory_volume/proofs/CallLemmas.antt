-- A call of a volume in memory that was done: it began, and then it was put behind the record.
use Rattle.std.proofs.Common.{◌≡◌, ◌+◌, List, [], ◌∷◌, ◌++◌, length, Ok, sym, ◌∙◌, ap, subst, arith, length-append}
use Rattle.stream_base.specs.Failing.{Failing, IsSteady}
use Rattle.volume_base.specs.Volume.{StaysSteady, Writes, WriteAnswers}
use Rattle.volume_base.specs.declared.error.VolumeError.{VolumeError}
use Rattle.volume_base.specs.declared.error.VolumeError.TheVariants.{Failed}
use Rattle.memory_volume.specs.MemoryVolume.{failing_of, state_of, Records}
use Rattle.memory_volume.specs.Starts.{Starts}
use Rattle.memory_volume.specs.declared.entry.Entry.{Entry}
use Rattle.memory_volume.specs.declared.memory.MemoryVolume.{MemoryVolume}

module _ (old begun new : MemoryVolume) (call : Entry) (calls : begun.calls.items ≡ old.calls.items) (reads : begun.reads ≡ old.reads)
    (starts : Starts {T = Unit {0}} old.failing begun.failing (Ok tt)) (recorded : Records {T = Unit {0}} {E = VolumeError} call begun new (Ok tt)) (failing : failing_of new ≡ failing_of begun) where
  pub pushed : new.calls.items ≡ old.calls.items ++ call ∷ []
  pushed = recorded.ok ∙ ap (λ (c : List Entry). c ++ call ∷ []) calls

  longer : length new.calls.items ≡ length old.calls.items + 1
  longer = ap length pushed ∙ length-append old.calls.items (call ∷ [])

  faults_are : new.failing.faults ≡ begun.failing.faults
  faults_are = ap (λ (f : Failing). f.faults) failing

  stays_steady : IsSteady old.failing → StaysSteady (state_of old) (state_of new)
  stays_steady steady = let then_is = starts.steady steady in record {
    steady = subst IsSteady (sym failing) then_is.0;
    faults = faults_are ∙ then_is.1;
  }

  pub call_writes : Writes {T = Unit {0}} {E = VolumeError} (Unit {0}) Failed (state_of old) (state_of new) (Ok tt)
  call_writes = record {
    later = omega (arith, longer);
    still = λ told same. absurd (omega (arith, longer, same));
    reads = recorded.reads ∙ reads;
    faults = omega (arith, starts.later, faults_are);
    failed = λ is. absurd (let never = is in cc);
    kept = faults_are ∙ starts.kept;
    steady = stays_steady;
  }

  pub call_answers : WriteAnswers {T = Unit {0}} (Unit {0}) (state_of old) (state_of new) (Ok tt)
  call_answers = record {
    rises = λ told. omega (arith, longer);
    memory = λ is. absurd (let never = is in cc);
    not_pruned = λ p is. let never = is in cc;
    not_out_of_range = λ p is. let never = is in cc;
  }
