-- The faults of both databases of a run, and what a volume is after a call that ends in one.
use Rattle.std.proofs.Common.{◌≡◌, Option, Some, None, Ok, Err, refl, sym, ◌∙◌, ap, subst}
use Rattle.std.specs.Prelude.{Result, IsErrOf, IfOk, IfErr, OnOk}
use Rattle.log_model.specs.declared.refusal.Refusal.{Refusal}
use Rattle.log_model.specs.declared.refusal.Refusal.TheVariants as refusal
use Rattle.chain_core.specs.Answers.{IsOutside}
use Rattle.chain_core.specs.declared.commitment.Commitment.{Commitment}
use Rattle.chain_core.specs.declared.error.Error.{Error}
use Rattle.chain_core.specs.declared.error.Error.TheVariants as error
use Rattle.tree_shape.specs.declared.mmr.Mmr.{Mmr}
use Rattle.tree_shape.specs.declared.sha256.Sha256Digest.{Sha256Digest}
use Rattle.volume_base.specs.Volume.{State, Writes, Changes}
use Rattle.volume_base.proofs.JoinLemmas.{writes_joins, changes_joins, went_of}
use Rattle.twin_run.specs.Faults.{full_fault, compact_fault, error_of, AreAlike, TellsRefusal, TellsUnlike, IsCorrupt, IsOwnFault}
use Rattle.twin_run.specs.declared.ending.Fault.{Fault}
use Rattle.twin_run.specs.declared.ending.Fault.TheVariants as fault
use Rattle.twin_run.specs.declared.ending.CorruptAt.TheVariants as at
use Rattle.twin_run.proofs.FaultLemmas.{full_outside, compact_outside, full_own, compact_own, full_volume, compact_volume, unlike_own, unlike_volume}

-- ---- refusals that are unlike

error_own : (why : Refusal) → IsOutside (error_of why) → ⊥
error_own (refusal.LocationOverflow size) out = out
error_own (refusal.FloorRegressed floor below) out = out
error_own (refusal.FloorBeyondSize floor location) out = out
error_own (refusal.PruneBeyondMinRequired location floor) out = out
error_own _ out = out

-- it is told of the contents, and no fault of the volume
pub record IsToldOwn (f : Fault) : Type 0 where
  pub own : IsOwnFault f
  pub other : f ≡ fault.Volume → ⊥

told_unlike : (full compact : Option Refusal) (f : Fault) → TellsRefusal full compact f → IsToldOwn f
told_unlike None None f tells = absurd tells
told_unlike (Some why) None f tells =
    subst IsToldOwn (sym tells) (record { own = error_own why; other = λ is. cc })
told_unlike full (Some why) f tells =
    subst IsToldOwn (sym tells.1) (record { own = error_own why; other = λ is. cc })

never_unlike : (full compact : Option Refusal) (f : Fault) → TellsRefusal full compact f → full ≡ compact → ⊥
never_unlike None None f tells same = tells
never_unlike (Some why) None f tells same = cc
never_unlike full (Some why) f tells same = tells.0 same

-- what both answer together
module _ (full compact : Option Refusal) (r : Result (Option Refusal) Fault) (checked : AreAlike full compact r) where
  unlike_as : (f : Fault) → r ≡ Err f → TellsRefusal full compact f
  unlike_as f e = subst (λ (q : Result (Option Refusal) Fault). IfErr q (TellsRefusal full compact)) e checked.unlike

  alike_as : (why : Option Refusal) → r ≡ Ok why → (why ≡ full) × (full ≡ compact)
  alike_as why e = subst (λ (q : Result (Option Refusal) Fault).
      IfOk q (λ refused. (refused ≡ full) × (full ≡ compact))) e checked.alike

  pub refused_unlike : (f : Fault) → r ≡ Err f → IsToldOwn f
  refused_unlike f e = told_unlike full compact f (unlike_as f e)

  -- it is the full one's refusal
  pub both_refuse : (why : Option Refusal) → r ≡ Ok why → full ≡ why
  both_refuse why e = let alike = alike_as why e in sym alike.0

  -- where both refuse alike it is no fault
  pub alike_ok : full ≡ compact → (f : Fault) → r ≡ Err f → ⊥
  alike_ok same f e = never_unlike full compact f (unlike_as f e) same

  -- and where neither does both may
  pub both_take : r ≡ Ok None → (full ≡ None) × (compact ≡ None)
  both_take e = let alike = alike_as None e in (sym alike.0, sym alike.1 ∙ sym alike.0)

-- ---- states that differ

pub unlike_told : (full compact : Commitment Mmr Sha256Digest) (f : Fault) → TellsUnlike full compact f → IsToldOwn f
unlike_told full compact f unlike =
    record { own = unlike_own full compact f unlike; other = unlike_volume full compact f unlike }

-- ---- what a volume is, where a call ends in a fault

err_is : {A E : Type 0} (r : Result A E) (e f : E) → r ≡ Err e → r ≡ Err f → e ≡ f
err_is r e f p q = cc

module _ {A B : Type 0} (e : Error Mmr) where
  pub full_failed : IsErrOf {T = B} (Err (full_fault e)) fault.Volume → IsErrOf {T = A} (Err e) error.Volume
  full_failed is = ap Err (full_volume e (err_is _ (full_fault e) fault.Volume refl is))

  pub compact_failed : IsErrOf {T = B} (Err (compact_fault e)) fault.Volume → IsErrOf {T = A} (Err e) error.Volume
  compact_failed is = ap Err (compact_volume e (err_is _ (compact_fault e) fault.Volume refl is))

pub other_failed : {A : Type 0} (f : Fault) → (f ≡ fault.Volume → ⊥) → IsErrOf {T = A} (Err f) fault.Volume → ⊥
other_failed f other is = other (err_is _ f fault.Volume refl is)

-- a fault is one, of whatever answer
pub fault_as : {A B : Type 0} (f : Fault) → IsErrOf {T = B} (Err f) fault.Volume → IsErrOf {T = A} (Err f) fault.Volume
fault_as f is = ap Err (err_is _ f fault.Volume refl is)

-- the same of another answer
module _ {A B E F : Type 0} (tells : Type 0) (f : E) (g : F) (a b : State) (r : Result A E) (q : Result B F)
    (failed : IsErrOf q g → IsErrOf r f) where
  pub writes_as : Writes tells f a b r → (OnOk r (b.faults ≡ a.faults) → OnOk q (b.faults ≡ a.faults))
      → Writes tells g a b q
  writes_as w kept = record {
    later = w.later;
    still = w.still;
    reads = w.reads;
    faults = w.faults;
    failed = λ is. w.failed (failed is);
    kept = kept w.kept;
    steady = w.steady;
  }

  pub changes_as : Changes tells f a b r → (OnOk r (b.faults ≡ a.faults) → OnOk q (b.faults ≡ a.faults))
      → Changes tells g a b q
  changes_as c kept = record {
    later = c.later;
    still = c.still;
    faults = c.faults;
    failed = λ is. c.failed (failed is);
    kept = kept c.kept;
    reads = c.reads;
    steady = c.steady;
  }

-- ---- a call of one database that failed

module _ (e : Error Mmr) (f : Fault) (is : f ≡ full_fault e) where
  pub full_is_own : IsOwnFault f
  full_is_own = subst IsOwnFault (sym is) (full_own e)

  pub full_is_outside : IsOutside e → IsCorrupt f → ⊥
  full_is_outside out told = full_outside e out (subst IsCorrupt is told)

  pub full_is_memory : e ≡ error.Memory → f ≡ fault.Memory
  full_is_memory memory = is ∙ ap full_fault memory

  module _ {A B : Type 0} (tells : Type 0) (a b : State) where
    full_told : IsErrOf {T = B} (Err f) fault.Volume → IsErrOf {T = A} (Err e) error.Volume
    full_told failed = full_failed e (subst (λ (g : Fault). IsErrOf {T = B} (Err g) fault.Volume) is failed)

    pub full_writes : Writes {T = A} tells error.Volume a b (Err e) → Writes {T = B} tells fault.Volume a b (Err f)
    full_writes w = writes_as tells error.Volume fault.Volume a b (Err e) (Err f) full_told w (λ kept. tt)

    pub full_changes : Changes {T = A} tells error.Volume a b (Err e) → Changes {T = B} tells fault.Volume a b (Err f)
    full_changes c = changes_as tells error.Volume fault.Volume a b (Err e) (Err f) full_told c (λ kept. tt)

module _ (e : Error Mmr) (f : Fault) (is : f ≡ compact_fault e) where
  pub compact_is_own : IsOwnFault f
  compact_is_own = subst IsOwnFault (sym is) (compact_own e)

  pub compact_is_outside : IsOutside e → IsCorrupt f → ⊥
  compact_is_outside out told = compact_outside e out (subst IsCorrupt is told)

  pub compact_is_memory : e ≡ error.Memory → f ≡ fault.Memory
  compact_is_memory memory = is ∙ ap compact_fault memory

  module _ {A B : Type 0} (tells : Type 0) (a b : State) where
    compact_told : IsErrOf {T = B} (Err f) fault.Volume → IsErrOf {T = A} (Err e) error.Volume
    compact_told failed =
        compact_failed e (subst (λ (g : Fault). IsErrOf {T = B} (Err g) fault.Volume) is failed)

    pub compact_writes : Writes {T = A} tells error.Volume a b (Err e)
        → Writes {T = B} tells fault.Volume a b (Err f)
    compact_writes w = writes_as tells error.Volume fault.Volume a b (Err e) (Err f) compact_told w (λ kept. tt)

    pub compact_changes : Changes {T = A} tells error.Volume a b (Err e)
        → Changes {T = B} tells fault.Volume a b (Err f)
    compact_changes c = changes_as tells error.Volume fault.Volume a b (Err e) (Err f) compact_told c (λ kept. tt)

pub memory_other : (f : Fault) → f ≡ fault.Memory → f ≡ fault.Volume → ⊥
memory_other f memory volume = cc

pub memory_untold : (f : Fault) → f ≡ fault.Memory → IsCorrupt f → ⊥
memory_untold f memory told = subst IsCorrupt memory told

-- ---- one call after another that was done

-- as the last one failed
pub writes_fail : {A B E : Type 0} (tells : Type 0) (d : E) (a b c : State) (x : A) (f : Fault)
    → Writes tells d a b (Ok x) → Writes {T = B} tells fault.Volume b c (Err f)
    → Writes {T = B} tells fault.Volume a c (Err f)
writes_fail tells d a b c x f first last = writes_joins tells d fault.Volume fault.Volume a b c x (Err f) (Err f)
    first last (λ is. is) (λ kept. kept)

pub changes_fail : {A B E : Type 0} (tells : Type 0) (d : E) (a b c : State) (x : A) (f : Fault)
    → Changes tells d a b (Ok x) → Changes {T = B} tells fault.Volume b c (Err f)
    → Changes {T = B} tells fault.Volume a c (Err f)
changes_fail tells d a b c x f first last = changes_joins tells fault.Volume fault.Volume a b c (Err f) (Err f)
    (went_of tells d a b x first) last (λ is. is) tt

-- or was done
pub writes_done : {A C D E : Type 0} (tells : Type 0) (d : E) (a b c : State) (x : A) (y : C) (z : D)
    → Writes tells d a b (Ok x) → Writes tells d b c (Ok y) → Writes tells fault.Volume a c (Ok z)
writes_done tells d a b c x y z first last = writes_joins tells d d fault.Volume a b c x (Ok y) (Ok z) first last
    (λ is. absurd (let never : Ok z ≡ Err fault.Volume = is in cc)) (λ kept. kept)

pub changes_done : {A C D E : Type 0} (tells : Type 0) (d : E) (a b c : State) (x : A) (y : C) (z : D)
    → Changes tells d a b (Ok x) → Changes tells d b c (Ok y) → Changes tells fault.Volume a c (Ok z)
changes_done tells d a b c x y z first last = changes_joins tells d fault.Volume a b c (Ok y) (Ok z)
    (went_of tells d a b x first) last (λ is. absurd (let never : Ok z ≡ Err fault.Volume = is in cc)) last.kept

pub changes_went : {A B E : Type 0} (tells : Type 0) (d : E) (a b c : State) (x : A) (y : B)
    → Changes tells d a b (Ok x) → Changes tells fault.Volume b c (Ok y) → Changes tells fault.Volume a c (Ok y)
changes_went tells d a b c x y first last = changes_joins tells fault.Volume fault.Volume a b c (Ok y) (Ok y)
    (went_of tells d a b x first) last (λ is. is) last.kept

-- or what it left is refused
pub writes_refused : {A B C E : Type 0} (tells : Type 0) (d : E) (a b c : State) (x : A) (y : C) (f : Fault)
    → (f ≡ fault.Volume → ⊥) → Writes tells d a b (Ok x) → Writes tells d b c (Ok y)
    → Writes {T = B} tells fault.Volume a c (Err f)
writes_refused tells d a b c x y f other first last = writes_joins tells d d fault.Volume a b c x (Ok y) (Err f)
    first last (λ is. absurd (other_failed f other is)) (λ kept. tt)
