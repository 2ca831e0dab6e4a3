-- The chain of a batch in a pool, and what becomes of the batch when it is sealed.
use Rattle.std.specs.Prelude.{◌≡◌, ◌⊎◌, ℕ, ◌+◌, List, Option, Some, None, IsSome}
use Rattle.std.specs.List.{AllByRecursion}
use Rattle.tree_shape.specs.Hashing.{Hashing}
use Rattle.tree_shape.specs.Shape.{Shape}
use Rattle.log_model.specs.Meaning.{Meaning}
use Rattle.log_model.specs.declared.refusal.Refusal.{Refusal}
use Rattle.chain_core.specs.Reached.{items_at, linked_item, IsPlaceOf}
use Rattle.chain_core.specs.Sealing.{refusal_of, place_refusal}
use Rattle.chain_core.specs.Slots.{slot_at, IsReach}
use Rattle.chain_core.specs.States.{IsStateIn}
use Rattle.chain_core.specs.declared.bounds.Bounds.{Bounds}
use Rattle.chain_core.specs.declared.commitment.Commitment.{Commitment}
use Rattle.chain_core.specs.declared.error.Error.{Error}
use Rattle.chain_core.specs.declared.error.Error.TheVariants.{Memory}
use Rattle.chain_core.specs.declared.place.Place.{Place}
use Rattle.chain_core.specs.declared.pool.HeldBatch.{HeldBatch}

-- A batch that is to be sealed: its parent's number, the state on which it stands, and how many operations it has before its commit.
pub record Sealing (F D : Type 0) : Type 0 where
  pub parent : Option ℕ
  pub base : Commitment F D
  pub size : ℕ

module _ {T F D : Type 0} (bounds : T → Bounds F D) (bytes : D → List ℕ) (pool : List (Option (HeldBatch T))) (b : Sealing F D)
    (current : Commitment F D) (below floor : ℕ) where
  -- Why it isn't sealed with a floor at a state of a log of the floor `below`: its place tells.
  pub record IsRefusedBy (why : Option Refusal) : Type 0 where
    pub place : Place F D
    pub place_of : IsPlaceOf bounds pool b.parent b.base below place
    pub why_is : place_refusal bytes place current b.size floor ≡ why

  -- The error is such a refusal, or want of memory.
  abbrev pub WhyUnsealed : Error F → Type 0
  WhyUnsealed e = (e ≡ Memory) ⊎ (IsSome (refusal_of e) × IsRefusedBy (refusal_of e))

  -- Nothing refuses it, and the states of the sealed batch are those of its place; its floor is this.
  pub record IsSealedAt (made : Bounds F D) : Type 0 where
    pub place : Place F D
    pub place_of : IsPlaceOf bounds pool b.parent b.base below place
    pub may : place_refusal bytes place current b.size floor ≡ None
    pub base : made.base ≡ b.base
    pub db : made.db ≡ place.boundary
    pub ancestors : made.ancestors ≡ place.ancestors
    pub size : made.tip.size ≡ b.size + 1
    pub floor_is : made.inactivity_floor ≡ floor

module _ {T F D Op V : Type 0} (bounds : T → Bounds F D) (s : Shape) (h : Hashing D) (m : Meaning Op V) where
  -- The base and the tip are states of fronts of a list.
  abbrev pub StandsIn : List Op → T → Type 0
  StandsIn list b = IsStateIn s h m list (bounds b).base × IsStateIn s h m list (bounds b).tip

  -- Of a parent that is alive the chain began at a state of a front of this list, and base and tip of each batch that is reached from it are such states.
  pub record IsPoolOf (pool : List (Option (HeldBatch T))) (parent : Option ℕ) (list : List Op) : Type 0 where
    pub boundary : (b : T) → linked_item pool parent ≡ Some b → IsStateIn s h m list (bounds b).db
    pub reached : (ids : List ℕ) → IsReach (slot_at pool) parent ids → AllByRecursion (StandsIn list) (items_at pool ids)
