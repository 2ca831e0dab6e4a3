-- How a call begins, which may be one that is set to fail.
use Rattle.std.specs.Prelude.{◌≡◌, ◌↔◌, ◌+◌, ◌-◌, ◌^◌, ◌≤◌, min, Result, Contains, IsErr, IfErr, OnOk, OnErr}
use Rattle.codec_base.specs.Causes.{Rose}
use Rattle.volume_base.specs.declared.error.VolumeError.{VolumeError}
use Rattle.volume_base.specs.declared.error.VolumeError.TheVariants.{Failed}
use Rattle.stream_base.specs.Failing.{Failing, IsSteady, after_call}

-- It fails exactly where it was set to, with this one error, and is counted.
pub record Starts {T : Type 0} (old new : Failing) (result : Result T VolumeError) : Type 0 where
  pub planned : IsErr result ↔ Contains old.ahead 1
  pub ahead : new.ahead ≡ after_call old.ahead
  pub only_failed : IfErr result (λ e. e ≡ Failed)
  pub later : old.faults ≤ new.faults
  pub counted : OnErr result (new.faults ≡ min (old.faults + 1) (2 ^ 64 - 1))
  pub kept : OnOk result (new.faults ≡ old.faults)
  pub failed : OnErr result (Rose old.faults new.faults)
  pub steady : IsSteady old → IsSteady new × (new.faults ≡ old.faults)
