-- Lists of leaves that are to be proved, and why they can't be.
use Rattle.std.specs.Prelude.{ℕ, nat_lt, List, [], ◌∷◌, Result, Ok, Err, if◌then◌else◌}
use Rattle.tree_store.specs.declared.error.Error.{Error}
use Rattle.tree_store.specs.declared.error.Error.TheVariants.{Empty, RangeOutOfBounds, DuplicateLocation, UnsortedLocation}

-- the first that isn't past the one before it is named
abbrev pub rising_from : {F : Type 0} → ℕ → List ℕ → Result (Unit {0}) (Error F)
rising_from l [] = Ok tt
rising_from l (m ∷ ms) =
    if nat_lt l m then rising_from m ms
    else (if nat_lt m l then Err (UnsortedLocation m) else Err (DuplicateLocation m))

abbrev pub order_answer : {F : Type 0} → List ℕ → Result (Unit {0}) (Error F)
order_answer [] = Err Empty
order_answer (l ∷ ls) = rising_from l ls

-- the first that isn't below n is named
abbrev pub within_answer : {F : Type 0} → ℕ → List ℕ → Result (Unit {0}) (Error F)
within_answer n [] = Ok tt
within_answer n (l ∷ ls) = if nat_lt l n then within_answer n ls else Err (RangeOutOfBounds l)

-- the answer of the first test that fails
abbrev pub then_answer : {E : Type 0} → Result (Unit {0}) E → Result (Unit {0}) E → Result (Unit {0}) E
then_answer (Ok u) next = next
then_answer (Err e) next = Err e

-- whether these leaves of a tree of n can be proved
abbrev pub several_answer : {F : Type 0} → ℕ → List ℕ → Result (Unit {0}) (Error F)
several_answer n ls = then_answer (order_answer ls) (within_answer n ls)
