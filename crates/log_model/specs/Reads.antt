-- What reads of a list answer, and why they are refused.
use Rattle.std.specs.Prelude.{ℕ, Bool, nat_lt, nat_le, List, [], ◌∷◌, ◌++◌, length, map, take, drop, Option, Some, None, Result, Ok, Err, if◌then◌else◌}
use Rattle.log_model.specs.Meaning.{Meaning}
use Rattle.log_model.specs.Operations.{last_value}
use Rattle.log_model.specs.StateBatches.{UnsealedBatch, SealedBatch}
use Rattle.log_model.specs.Machine.{State, SameTest}
use Rattle.log_model.specs.Reach.{floor_below, may_read_sealed, may_read_unsealed}
use Rattle.log_model.specs.declared.refusal.Refusal.{Refusal}
use Rattle.log_model.specs.declared.refusal.Refusal.TheVariants.{StaleRead, LocationOutOfOrder, LocationOutOfBounds, BelowInactivityFloor}

-- The first of two refusals.
abbrev pub or_else : Option Refusal → Option Refusal → Option Refusal
or_else None later = later
or_else (Some r) later = Some r

abbrev pub refuse_if : Bool → Refusal → Option Refusal
refuse_if b r = if b then Some r else None

-- An answer, where nothing refuses it.
abbrev pub unless_refused : {A : Type 0} → Option Refusal → A → Result A Refusal
unless_refused None answer = Ok answer
unless_refused (Some r) answer = Err r

-- ---- why locations are refused

-- A location at or past the end of a list.
abbrev pub outside : {Op : Type 0} → List Op → ℕ → Option Refusal
outside ops l = refuse_if (nat_le (length ops) l) (LocationOutOfBounds l (length ops))

-- One location of a list, where nothing below this one is read, for such a reason.
abbrev pub read_refusal : {Op : Type 0} → List Op → ℕ → (ℕ → Refusal) → ℕ → Option Refusal
read_refusal ops low why l = or_else (outside ops l) (refuse_if (nat_lt l low) (why l))

-- The first of several that isn't past the one before.
abbrev pub unordered : List ℕ → Option Refusal
unordered [] = None
unordered (l ∷ []) = None
unordered (l ∷ k ∷ ls) = if nat_lt l k then unordered (k ∷ ls) else Some (LocationOutOfOrder l k)

-- The last of several, where it is at or past the end.
abbrev pub last_outside : {Op : Type 0} → List Op → List ℕ → Option Refusal
last_outside ops [] = None
last_outside ops (l ∷ []) = outside ops l
last_outside ops (l ∷ k ∷ ls) = last_outside ops (k ∷ ls)

-- The first of several, where it lies below what is read.
abbrev pub first_below : ℕ → (ℕ → Refusal) → List ℕ → Option Refusal
first_below low why [] = None
first_below low why (l ∷ ls) = refuse_if (nat_lt l low) (why l)

abbrev pub many_refusal : {Op : Type 0} → List Op → ℕ → (ℕ → Refusal) → List ℕ → Option Refusal
many_refusal ops low why ls = or_else (unordered ls) (or_else (last_outside ops ls) (first_below low why ls))

-- ---- answers

module _ {Op V : Type 0} (m : Meaning Op V) where
  -- The value at a location of a list; of a commit, its metadata.
  abbrev pub value_at : List Op → ℕ → Option V
  value_at ops l = last_value m (take 1 (drop l ops))

  abbrev pub read_answer : List Op → ℕ → (ℕ → Refusal) → ℕ → Result (Option V) Refusal
  read_answer ops low why l = unless_refused (read_refusal ops low why l) (value_at ops l)

  abbrev pub many_answer : List Op → ℕ → (ℕ → Refusal) → List ℕ → Result (List (Option V)) Refusal
  many_answer ops low why ls = unless_refused (many_refusal ops low why ls) (map (value_at ops) ls)

-- ---- reads of a batch

-- Whether a batch may be read here, the list that is read, and the floor below which nothing is.
pub record Reading (Op : Type 0) : Type 0 where
  pub here : Bool
  pub list : List Op
  pub floor : ℕ

abbrev pub sealed_reading : {Op : Type 0} → SameTest Op → State Op → SealedBatch Op → Reading Op
sealed_reading same s c = record { here = may_read_sealed same s c; list = c.list; floor = c.floor }

-- An unsealed batch is read with its appends, from the floor on that it builds on.
abbrev pub unsealed_reading : {Op V : Type 0} → SameTest Op → Meaning Op V → State Op → UnsealedBatch Op → Reading Op
unsealed_reading same m s u =
    record { here = may_read_unsealed same s u; list = u.list ++ u.pending; floor = floor_below m s u }

module _ {Op V : Type 0} (m : Meaning Op V) where
  abbrev pub batch_answer : Reading Op → ℕ → Result (Option V) Refusal
  batch_answer r l = if r.here then read_answer m r.list r.floor BelowInactivityFloor l else Err StaleRead

  abbrev pub batch_many_answer : Reading Op → List ℕ → Result (List (Option V)) Refusal
  batch_many_answer r ls = if r.here then many_answer m r.list r.floor BelowInactivityFloor ls else Err StaleRead
