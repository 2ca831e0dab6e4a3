-- The state of a list of operations, as a compact database keeps it.
use Rattle.std.specs.Prelude.{◌≡◌, ℕ, ◌-◌, ◌^◌, ◌≤◌, List, length, Some, slice_get}
use Rattle.tree_shape.specs.Hashing.{Hashing}
use Rattle.tree_shape.specs.Shape.{Shape}
use Rattle.tree_core.specs.Tree.{Tree, IsOf}
use Rattle.log_model.specs.Meaning.{Meaning}
use Rattle.log_model.specs.Operations.{floor_of, leaves_from}
use Rattle.log_model.specs.Good.{EndsWithCommit}
use Rattle.log_model.specs.Witness.{last_bytes}
use Rattle.compact_db.specs.Verified.{verified_leaves}
use Rattle.compact_db.specs.declared.verified.VerifiedWitness.{VerifiedWitness}

-- It is the tree of these leaves, and what is derived of it.
abbrev pub IsRestored : {F D : Type 0} → Shape → Hashing D → List D → List ℕ → ℕ → VerifiedWitness F D × Tree D → Type 0
IsRestored s h all bytes floor r = (r.0 ≡ verified_leaves s h all bytes floor) × IsOf s h all r.1

-- What is derived of the witness of a list.
abbrev pub verified_of : {F D Op V : Type 0} → Shape → Hashing D → Meaning Op V → List Op → VerifiedWitness F D
verified_of s h m ops =
    verified_leaves s h (leaves_from s h m 0 ops) (last_bytes s h m ops (length ops)) (floor_of m ops)

-- It is the state of a list that a commit ends: what is derived of its witness, a tree of its leaves, and the commit.
pub record IsStateOf {F D Op V : Type 0} (s : Shape) (h : Hashing D) (m : Meaning Op V) (ops : List Op)
    (tip : VerifiedWitness F D) (tree : Tree D) (commit : Op) : Type 0 where
  pub ends : EndsWithCommit m ops
  pub few : length ops ≤ 2 ^ 62
  pub tip_is : tip ≡ verified_of s h m ops
  pub tree_of : IsOf s h (leaves_from s h m 0 ops) tree
  pub commit_is : slice_get ops (length ops - 1) ≡ Some commit
