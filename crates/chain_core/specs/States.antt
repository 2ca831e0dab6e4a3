-- The states of a log, as the commitments of the lists up to them, and those of a sealed batch.
use Rattle.std.specs.Prelude.{◌≡◌, ℕ, ◌≤◌, List, [], ◌∷◌, length, map, take, drop}
use Rattle.tree_shape.specs.Hashing.{Hashing}
use Rattle.tree_shape.specs.Shape.{Shape}
use Rattle.log_model.specs.Machine.{SameTest}
use Rattle.log_model.specs.Meaning.{Meaning}
use Rattle.log_model.specs.Operations.{floor_of, root_of}
use Rattle.chain_core.specs.Commitments.{is_same}
use Rattle.chain_core.specs.declared.bounds.Bounds.{Bounds}
use Rattle.chain_core.specs.declared.commitment.Commitment.{Commitment}

-- The sizes of states.
abbrev pub sizes : {F D : Type 0} → List (Commitment F D) → List ℕ
sizes cs = map (λ c. c.size) cs

-- The state of a log that is this list.
abbrev pub commitment_of : {F D Op V : Type 0} → Shape → Hashing D → Meaning Op V → List Op → Commitment F D
commitment_of s h m ops = record { size = length ops; root = root_of s h m ops }

-- Whether two lists have one size and one root.
abbrev pub same_state : {D Op V : Type 0} → (F : Type 0) → Shape → Hashing D → Meaning Op V → SameTest Op
same_state F s h m first second = is_same {F = F} h.bytes (commitment_of s h m first) (commitment_of s h m second)

-- It is the state of a log that is a front of this list.
abbrev pub IsStateIn : {F D Op V : Type 0} → Shape → Hashing D → Meaning Op V → List Op → Commitment F D → Type 0
IsStateIn s h m list c = (c.size ≤ length list) × (c ≡ commitment_of s h m (take c.size list))

-- So are all.
abbrev pub AreStatesIn : {F D Op V : Type 0} → Shape → Hashing D → Meaning Op V → List Op → List (Commitment F D)
    → Type 0
AreStatesIn s h m list [] = Unit {0}
AreStatesIn s h m list (c ∷ cs) = IsStateIn s h m list c × AreStatesIn s h m list cs

-- The states of a sealed batch are those of fronts of its list, and its tip is that of the whole.
pub record AreBounds {F D Op V : Type 0} (s : Shape) (h : Hashing D) (m : Meaning Op V) (list : List Op)
    (b : Bounds F D) : Type 0 where
  pub base : IsStateIn s h m list b.base
  pub db : IsStateIn s h m list b.db
  pub ancestors : AreStatesIn s h m list b.ancestors
  pub tip : b.tip ≡ commitment_of s h m list

-- A sealed batch of a list, full or compact: its states are the list's, its floor is the list's, and its own operations stand in the list from its base on.
pub record IsBatchOf {F D Op V : Type 0} (s : Shape) (h : Hashing D) (m : Meaning Op V) (list operations : List Op)
    (b : Bounds F D) : Type 0 where
  pub bounds : AreBounds s h m list b
  pub floor : b.inactivity_floor ≡ floor_of m list
  pub own : operations ≡ drop b.base.size list
