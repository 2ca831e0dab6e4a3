-- When a batch is sealed, and why it isn't.
use Rattle.std.specs.Prelude.{◌≡◌, ◌⊎◌, ℕ, ◌+◌, List, [], ◌∷◌, ◌++◌, length, Option, Some, None, IsSome}
use Rattle.log_model.specs.Meaning.{Meaning}
use Rattle.log_model.specs.declared.refusal.Refusal.{Refusal}
use Rattle.chain_core.specs.Reached.{IsPlaceOf}
use Rattle.chain_core.specs.Sealing.{refusal_of, place_refusal}
use Rattle.chain_core.specs.declared.bounds.Bounds.{Bounds}
use Rattle.chain_core.specs.declared.commitment.Commitment.{Commitment}
use Rattle.chain_core.specs.declared.error.Error.{Error}
use Rattle.chain_core.specs.declared.error.Error.TheVariants.{Memory}
use Rattle.chain_core.specs.declared.place.Place.{Place}
use Rattle.chain_core.specs.declared.pool.HeldBatch.{HeldBatch}
use Rattle.compact_db.specs.Batches.{UnmerkleizedView, MerkleizedView, bounds_of}

-- These operations, and behind them one commit of this metadata and floor.
pub record IsEnded {Op V : Type 0} (m : Meaning Op V) (collected : List Op) (metadata : Option V) (floor : ℕ)
    (ops : List Op) : Type 0 where
  pub commit : Op
  pub ended : ops ≡ collected ++ commit ∷ []
  pub floored : m.floor commit ≡ Some floor
  pub valued : m.value commit ≡ metadata

-- Where a batch stands in a pool, over a log of this floor.
abbrev pub HasPlace : {F D Op : Type 0} → List (Option (HeldBatch (MerkleizedView F D Op)))
    → UnmerkleizedView F D Op → ℕ → Place F D → Type 0
HasPlace pool b below place = IsPlaceOf bounds_of pool b.parent b.base below place

-- Why a batch isn't sealed with a floor at a state of a log of this floor: its place tells, with as many operations
-- as it has before its commit.
pub record IsRefused {F D Op : Type 0} (bytes : D → List ℕ) (pool : List (Option (HeldBatch (MerkleizedView F D Op))))
    (b : UnmerkleizedView F D Op) (current : Commitment F D) (below floor : ℕ) (why : Option Refusal) : Type 0 where
  pub place : Place F D
  pub place_of : HasPlace pool b below place
  pub why_is : place_refusal bytes place current (b.base.size + length b.pending) floor ≡ why

-- The error is such a refusal, or want of memory.
abbrev pub WhyNotSealed : {F D Op : Type 0} → (D → List ℕ) → List (Option (HeldBatch (MerkleizedView F D Op)))
    → UnmerkleizedView F D Op → Commitment F D → ℕ → ℕ → Error F → Type 0
WhyNotSealed bytes pool b current below floor e =
    (e ≡ Memory) ⊎ (IsSome (refusal_of e) × IsRefused bytes pool b current below floor (refusal_of e))

-- Nothing refuses it, and the states of the sealed batch are those of its place; its floor is this.
pub record IsSealedIn {F D Op : Type 0} (bytes : D → List ℕ) (pool : List (Option (HeldBatch (MerkleizedView F D Op))))
    (b : UnmerkleizedView F D Op) (current : Commitment F D) (below floor : ℕ) (bounds : Bounds F D) : Type 0 where
  pub place : Place F D
  pub place_of : HasPlace pool b below place
  pub may : place_refusal bytes place current (b.base.size + length b.pending) floor ≡ None
  pub base : bounds.base ≡ b.base
  pub db : bounds.db ≡ place.boundary
  pub ancestors : bounds.ancestors ≡ place.ancestors
  pub size : bounds.tip.size ≡ b.base.size + length b.pending + 1
  pub floor_is : bounds.inactivity_floor ≡ floor
