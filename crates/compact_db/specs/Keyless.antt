-- The appends that a batch without keys has collected.
use Rattle.std.specs.Prelude.{ℕ, List, [], ◌∷◌, ◌++◌, map, refl}
use Rattle.log_model.specs.Good.{AreAppends}
use Rattle.op_codec.specs.Keyless.{Parts}
use Rattle.op_codec.specs.Meanings.{keyless_meaning}
use Rattle.op_codec.specs.declared.keyless.Operation.{Operation}
use Rattle.op_codec.specs.declared.keyless.Operation.TheVariants.{Append}
use Rattle.compact_db.specs.Batches.{UnmerkleizedView}

-- An append of each value, in their order.
abbrev pub appends_of : {F V A C : Type 0} → List A → List (Operation F V A C)
appends_of values = map Append values

-- The batch with one more append.
abbrev pub with_append : {F G D V A C : Type 0} → UnmerkleizedView F D (Operation G V A C) → A
    → UnmerkleizedView F D (Operation G V A C)
with_append b value = record b { pending = b.pending ++ (Append value ∷ []) }

-- None is a commit.
pub only_appends : (F V : Type 0) {A : Type 0} (C : Type 0) (spelling : Parts A → List ℕ) (values : List A)
    → AreAppends (keyless_meaning {F = F} {V = V} {C = C} spelling) (appends_of values)
only_appends F V C spelling [] = tt
only_appends F V C spelling (value ∷ values) = (refl, only_appends F V C spelling values)
