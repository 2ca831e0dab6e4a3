-- How calls end that went on.
use Rattle.std.proofs.Common.{◌≡◌, arith}
use Rattle.std.specs.Prelude.{Result, Ok, Err}
use Rattle.volume_base.specs.Volume.{State, Changes}
use Rattle.volume_base.proofs.JoinLemmas.{Went}

-- what went on ends with this
pub changes_ok : {T E : Type 0} (tells : Type 0) (f : E) (a b : State) (x : T) → Went tells a b
    → Changes tells f a b (Ok x)
changes_ok tells f a b x went = record {
  later = went.later;
  still = went.still;
  faults = (let same = went.faults in omega (arith, same));
  failed = λ is. absurd cc;
  kept = went.faults;
  reads = went.reads;
  steady = went.steady;
}

-- or with an error that isn't the volume's
pub changes_err : {T E : Type 0} (tells : Type 0) (f e : E) (a b : State) → (e ≡ f → ⊥) → Went tells a b
    → Changes tells f a b (let r : Result T E = Err e in r)
changes_err tells f e a b other went = record {
  later = went.later;
  still = went.still;
  faults = (let same = went.faults in omega (arith, same));
  failed = λ is. absurd (let same : e ≡ f = cc in other same);
  kept = tt;
  reads = went.reads;
  steady = went.steady;
}
