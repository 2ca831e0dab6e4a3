-- What a read answers.
use Rattle.std.proofs.Common.{◌≡◌, ℕ, Err, Result}
use Rattle.volume_base.specs.declared.error.VolumeError.{VolumeError}
use Rattle.volume_base.specs.declared.error.VolumeError.TheVariants.{ItemOutOfRange}

abbrev pub same_error : (T : Type 0) → Result T VolumeError → Result T VolumeError → Type 0
same_error T a b = a ≡ b

pub position_is : (T : Type 0) (a b : ℕ) → same_error T (Err (ItemOutOfRange a)) (Err (ItemOutOfRange b)) → b ≡ a
position_is T a b is = cc
