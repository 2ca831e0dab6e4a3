-- The answers of calls in sequence.
use Rattle.std.proofs.Common.{◌≡◌, ◌≤◌, Ok, Err, ◌∙◌, refl, subst, arith}
use Rattle.std.specs.Prelude.{ℕ, List, Result, IsErrOf, OnOk}
use Rattle.codec_base.specs.Causes.{Rose}
use Rattle.volume_base.specs.Volume.{State, SameContents, OnlyLog, OnlyMap, StaysSteady, Writes, Reads, Changes}

pub on_ok : {T E : Type 0} (r : Result T E) (P Q : Type 0) → (P → Q) → OnOk r P → OnOk r Q
on_ok (Ok answer) P Q then is = then is
on_ok (Err error) P Q then is = tt

pub same_joins : (a b c : State) → SameContents a b → SameContents b c → SameContents a c
same_joins a b c ab bc = record { logs = λ name. bc.logs name ∙ ab.logs name; maps = λ name. bc.maps name ∙ ab.maps name }

pub only_log_joins : (name : List ℕ) (a b c : State) → OnlyLog name a b → OnlyLog name b c → OnlyLog name a c
only_log_joins name a b c ab bc = record { logs = λ other ne. bc.logs other ne ∙ ab.logs other ne; maps = λ other. bc.maps other ∙ ab.maps other }

pub only_log_same : (name : List ℕ) (a b : State) → SameContents a b → OnlyLog name a b
only_log_same name a b same = record { logs = λ other ne. same.logs other; maps = same.maps }

pub only_map_same : (name : List ℕ) (a b : State) → SameContents a b → OnlyMap name a b
only_map_same name a b same = record { logs = same.logs; maps = λ other ne. same.maps other }

pub only_map_joins : (name : List ℕ) (a b c : State) → OnlyMap name a b → OnlyMap name b c → OnlyMap name a c
only_map_joins name a b c ab bc = record { logs = λ other. bc.logs other ∙ ab.logs other; maps = λ other ne. bc.maps other ne ∙ ab.maps other ne }

-- A writing call that answered Ok, and one more. Their errors, and that of the run, may differ: a fault of the run is one of the last call.
pub writes_joins : {R S T D E F : Type 0} (tells : Type 0) (first_fault : D) (last_fault : E) (fault : F) (a b c : State) (answer : R) (last : Result S E) (result : Result T F)
    → Writes tells first_fault a b (Ok answer) → Writes tells last_fault b c last → (IsErrOf result fault → IsErrOf last last_fault)
    → (OnOk last (c.faults ≡ b.faults) → OnOk result (c.faults ≡ b.faults)) → Writes tells fault a c result
writes_joins tells first_fault last_fault fault a b c answer last result ab bc same kept = record {
  later = omega (arith, ab.later, bc.later);
  still = λ told clock. same_joins a b c (ab.still told (omega (arith, ab.later, bc.later, clock))) (bc.still told (omega (arith, ab.later, bc.later, clock)));
  reads = bc.reads ∙ ab.reads;
  faults = omega (arith, ab.kept, bc.faults);
  failed = λ is. subst (λ before. Rose before c.faults) ab.kept (bc.failed (same is));
  kept = on_ok result (c.faults ≡ b.faults) (c.faults ≡ a.faults) (λ is. is ∙ ab.kept) (kept bc.kept);
  steady = λ steady. let one = ab.steady steady in let two = bc.steady one.steady in record { steady = two.steady; faults = two.faults ∙ one.faults };
}

-- A call that reads and then writes.

pub changes_of_writes : {T E : Type 0} (tells : Type 0) (fault : E) (a b : State) (result : Result T E) → Writes tells fault a b result → Changes tells fault a b result
changes_of_writes tells fault a b result w = record { later = w.later; still = w.still; faults = w.faults; failed = w.failed; kept = w.kept; reads = omega (arith, w.reads); steady = w.steady }

pub changes_of_reads : {T E : Type 0} (tells : Type 0) (fault : E) (a b : State) (result : Result T E) → Reads tells fault a b result → Changes tells fault a b result
changes_of_reads tells fault a b result r = record { later = omega (arith, r.clock); still = λ told same. r.contents told; faults = r.faults; failed = r.failed; kept = r.kept; reads = r.reads; steady = r.steady }

-- Calls that each answered Ok.
pub record Went (tells : Type 0) (old new : State) : Type 0 where
  pub later : old.clock ≤ new.clock
  pub still : tells → new.clock ≡ old.clock → SameContents old new
  pub faults : new.faults ≡ old.faults
  pub reads : old.reads ≤ new.reads
  pub steady : old.steady → StaysSteady old new

pub went_none : (tells : Type 0) (s : State) → Went tells s s
went_none tells s = record { later = omega arith; still = λ told same. record { logs = λ name. refl; maps = λ name. refl }; faults = refl; reads = omega arith; steady = λ steady. record { steady = steady; faults = refl } }

pub went_of : {T E : Type 0} (tells : Type 0) (fault : E) (a b : State) (answer : T) → Changes tells fault a b (Ok answer) → Went tells a b
went_of tells fault a b answer c = record { later = c.later; still = c.still; faults = c.kept; reads = c.reads; steady = c.steady }

pub went_of_writes : {T E : Type 0} (tells : Type 0) (fault : E) (a b : State) (answer : T) → Writes tells fault a b (Ok answer) → Went tells a b
went_of_writes tells fault a b answer w = went_of tells fault a b answer (changes_of_writes tells fault a b (Ok answer) w)

pub went_of_reads : {T E : Type 0} (tells : Type 0) (fault : E) (a b : State) (answer : T) → Reads tells fault a b (Ok answer) → Went tells a b
went_of_reads tells fault a b answer r = went_of tells fault a b answer (changes_of_reads tells fault a b (Ok answer) r)

pub went_joins : (tells : Type 0) (a b c : State) → Went tells a b → Went tells b c → Went tells a c
went_joins tells a b c ab bc = record {
  later = omega (arith, ab.later, bc.later);
  still = λ told same. same_joins a b c (ab.still told (omega (arith, ab.later, bc.later, same))) (bc.still told (omega (arith, ab.later, bc.later, same)));
  faults = bc.faults ∙ ab.faults;
  reads = omega (arith, ab.reads, bc.reads);
  steady = λ steady. let one = ab.steady steady in let two = bc.steady one.steady in record { steady = two.steady; faults = two.faults ∙ one.faults };
}

-- and a last one with its answer
pub changes_joins : {S T E F : Type 0} (tells : Type 0) (last_fault : E) (fault : F) (a b c : State) (last : Result S E) (result : Result T F)
    → Went tells a b → Changes tells last_fault b c last → (IsErrOf result fault → IsErrOf last last_fault) → OnOk result (c.faults ≡ b.faults) → Changes tells fault a c result
changes_joins tells last_fault fault a b c last result ab bc same kept = record {
  later = omega (arith, ab.later, bc.later);
  still = λ told is. same_joins a b c (ab.still told (omega (arith, ab.later, bc.later, is))) (bc.still told (omega (arith, ab.later, bc.later, is)));
  faults = omega (arith, ab.faults, bc.faults);
  failed = λ is. subst (λ before. Rose before c.faults) ab.faults (bc.failed (same is));
  kept = on_ok result (c.faults ≡ b.faults) (c.faults ≡ a.faults) (λ is. is ∙ ab.faults) kept;
  reads = omega (arith, ab.reads, bc.reads);
  steady = λ steady. let one = ab.steady steady in let two = bc.steady one.steady in record { steady = two.steady; faults = two.faults ∙ one.faults };
}
