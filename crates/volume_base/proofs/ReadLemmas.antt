-- Runs of calls that only read.
use Rattle.std.proofs.Common.{◌≡◌, ◌≤◌, Ok, Err, ◌∙◌, refl, subst, arith}
use Rattle.std.specs.Prelude.{Result, IsErrOf, OnOk}
use Rattle.codec_base.specs.Causes.{Rose}
use Rattle.volume_base.specs.Volume.{State, PastStays, SameContents, StaysSteady, Reads}
use Rattle.volume_base.proofs.JoinLemmas.{on_ok, same_joins}
use Rattle.volume_base.proofs.MomentLemmas.{past_same, past_joins}

-- Calls that each answered Ok: nothing was written, and no fault was counted.
pub record OnlyRead (tells : Type 0) (old new : State) : Type 0 where
  pub clock : new.clock ≡ old.clock
  pub past : tells → PastStays old new
  pub contents : tells → SameContents old new
  pub faults : new.faults ≡ old.faults
  pub reads : old.reads ≤ new.reads
  pub steady : old.steady → StaysSteady old new

pub only_read_none : (tells : Type 0) (s : State) → OnlyRead tells s s
only_read_none tells s = record {
  clock = refl;
  past = λ told. past_same s;
  contents = λ told. record { logs = λ name. refl; maps = λ name. refl };
  faults = refl;
  reads = omega arith;
  steady = λ steady. record { steady = steady; faults = refl };
}

-- one call more that answered Ok
pub only_read_joins : {T E : Type 0} (tells : Type 0) (fault : E) (a b c : State) (answer : T) → OnlyRead tells a b → Reads tells fault b c (Ok answer) → OnlyRead tells a c
only_read_joins tells fault a b c answer ab bc = record {
  clock = bc.clock ∙ ab.clock;
  past = λ told. past_joins a b c (ab.past told) (bc.past told);
  contents = λ told. same_joins a b c (ab.contents told) (bc.contents told);
  faults = bc.kept ∙ ab.faults;
  reads = omega (arith, ab.reads, bc.reads);
  steady = λ steady. let one = ab.steady steady in let two = bc.steady one.steady in record { steady = two.steady; faults = two.faults ∙ one.faults };
}

on_each_ok : {T E : Type 0} (r : Result T E) (P : Type 0) → P → OnOk r P
on_each_ok (Ok answer) P is = is
on_each_ok (Err error) P is = tt

-- a run that ends in a call with this answer
pub reads_joins : {T S E : Type 0} (tells : Type 0) (fault : E) (a b c : State) (r : Result T E) (s : Result S E) → OnlyRead tells a b → Reads tells fault b c r → (IsErrOf s fault → IsErrOf r fault) → OnOk s (c.faults ≡ b.faults) → Reads tells fault a c s
reads_joins tells fault a b c r s ab bc same kept = record {
  clock = bc.clock ∙ ab.clock;
  past = λ told. past_joins a b c (ab.past told) (bc.past told);
  contents = λ told. same_joins a b c (ab.contents told) (bc.contents told);
  faults = omega (arith, ab.faults, bc.faults);
  failed = λ is. subst (λ before. Rose before c.faults) ab.faults (bc.failed (same is));
  kept = on_ok s (c.faults ≡ b.faults) (c.faults ≡ a.faults) (λ is. is ∙ ab.faults) kept;
  reads = omega (arith, ab.reads, bc.reads);
  steady = λ steady. let one = ab.steady steady in let two = bc.steady one.steady in record { steady = two.steady; faults = two.faults ∙ one.faults };
}

-- a run with no fault of its own
pub reads_of : {T E : Type 0} (tells : Type 0) (fault : E) (a b : State) (r : Result T E) → OnlyRead tells a b → (IsErrOf r fault → ⊥) → Reads tells fault a b r
reads_of tells fault a b r ab never = record {
  clock = ab.clock;
  past = ab.past;
  contents = ab.contents;
  faults = omega (arith, ab.faults);
  failed = λ is. absurd (never is);
  kept = on_each_ok r (b.faults ≡ a.faults) ab.faults;
  reads = ab.reads;
  steady = ab.steady;
}
