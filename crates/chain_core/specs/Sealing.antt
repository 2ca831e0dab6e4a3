-- Why a batch isn't sealed, and which refusal an error is.
use Rattle.std.specs.Prelude.{◌≡◌, ℕ, Bool, List, ◌∷◌, Option, Some, None, IsSome, Result, Ok, Err}
use Rattle.std.specs.List.{list_any}
use Rattle.tree_store.specs.declared.error.Error.TheVariants as tree_error
use Rattle.log_model.specs.Refusals.{commit_refusal}
use Rattle.log_model.specs.declared.refusal.Refusal.{Refusal}
use Rattle.log_model.specs.declared.refusal.Refusal.TheVariants as refusal
use Rattle.chain_core.specs.Commitments.{is_same}
use Rattle.chain_core.specs.declared.commitment.Commitment.{Commitment}
use Rattle.chain_core.specs.declared.error.Error.{Error}
use Rattle.chain_core.specs.declared.error.Error.TheVariants.{StaleBatch, Merkle, FloorRegressed, FloorBeyondSize}
use Rattle.chain_core.specs.declared.place.Place.{Place}

-- The refusal of a seal or an apply that an error is, where it is one.
abbrev pub refusal_of : {F : Type 0} → Error F → Option Refusal
refusal_of StaleBatch = Some refusal.StaleBatch
refusal_of (Merkle (tree_error.LocationOverflow size)) = Some (refusal.LocationOverflow size)
refusal_of (FloorRegressed floor below) = Some (refusal.FloorRegressed floor below)
refusal_of (FloorBeyondSize floor location) = Some (refusal.FloorBeyondSize floor location)
refusal_of _ = None

-- Nothing refuses what is answered, and an error is the refusal.
abbrev pub Refuses : {F A : Type 0} → Option Refusal → Result A (Error F) → Type 0
Refuses why (Ok answer) = why ≡ None
Refuses why (Err e) = IsSome why × (refusal_of e ≡ why)

-- Whether a log of this state stands at one of these states, where roots are known by their bytes.
abbrev pub is_at : {F D : Type 0} → (D → List ℕ) → Commitment F D → List (Commitment F D) → Bool
is_at bytes current states = list_any (is_same bytes current) states

-- Why a batch of this place, which has so many operations before its commit, isn't sealed with this floor at a state of the log.
abbrev pub place_refusal : {F D : Type 0} → (D → List ℕ) → Place F D → Commitment F D → ℕ → ℕ → Option Refusal
place_refusal bytes place current size floor =
    commit_refusal (is_at bytes current (place.boundary ∷ place.ancestors)) size place.floor floor
