-- The sets that a batch with keys has collected: each key once, with its latest value, in the order of keys.
use Rattle.std.specs.Prelude.{ℕ, Bool, false, List, [], ◌∷◌, map, refl, ◌||◌}
use Rattle.std.specs.Ordering.{is_eq, match_ordering}
use Rattle.std.specs.declared.cmp.Ordering.{Ordering}
use Rattle.log_model.specs.Good.{AreAppends}
use Rattle.op_codec.specs.Immutable.{Parts}
use Rattle.op_codec.specs.ImmutableMeanings.{immutable_meaning}
use Rattle.op_codec.specs.declared.immutable.Operation.{Operation}
use Rattle.op_codec.specs.declared.immutable.Operation.TheVariants.{Set, Commit}
use Rattle.compact_db.specs.Batches.{UnmerkleizedView}

-- A set of each key to its value, in their order.
abbrev pub sets_of : {F V K A D C : Type 0} → List (K × A) → List (Operation F K V D A C)
sets_of entries = map (λ e. Set e.0 e.1) entries

-- The keys that are set, in their order.
abbrev pub keys_in : {F V K A D C : Type 0} → List (Operation F K V D A C) → List K
keys_in [] = []
keys_in (Set key value ∷ ops) = key ∷ keys_in ops
keys_in (Commit metadata floor ∷ ops) = keys_in ops

module _ {K : Type 0} (cmp : K → K → Ordering) where
  -- Whether one of these operations sets the key.
  abbrev pub sets_key : {F V A D C : Type 0} → K → List (Operation F K V D A C) → Bool
  sets_key key [] = false
  sets_key key (Set k value ∷ ops) = is_eq (cmp key k) || sets_key key ops
  sets_key key (Commit metadata floor ∷ ops) = sets_key key ops

  -- Sets in the order of their keys, with this key at its place: where the key is set already, it gets the value.
  abbrev pub set_among : {F V A D C : Type 0} → K → A → List (Operation F K V D A C) → List (Operation F K V D A C)
  set_among key value [] = Set key value ∷ []
  set_among key value (Set k old ∷ ops) =
      match_ordering (cmp key k) (Set key value ∷ Set k old ∷ ops) (Set k value ∷ ops)
      (Set k old ∷ set_among key value ops)
  set_among key value (Commit metadata floor ∷ ops) = Commit metadata floor ∷ set_among key value ops

  -- The batch in which the key has this value.
  abbrev pub with_set : {F G D V A E C : Type 0} → UnmerkleizedView F D (Operation G K V E A C) → K → A
      → UnmerkleizedView F D (Operation G K V E A C)
  with_set b key value = record b { pending = set_among key value b.pending }

-- None is a commit.
pub only_sets : (F V K : Type 0) {A : Type 0} (D C : Type 0) (spelling : Parts K A → List ℕ) (entries : List (K × A))
    → AreAppends (immutable_meaning {F = F} {K = K} {V = V} {D = D} {C = C} spelling) (sets_of entries)
only_sets F V K D C spelling [] = tt
only_sets F V K D C spelling (e ∷ entries) = (refl, only_sets F V K D C spelling entries)
