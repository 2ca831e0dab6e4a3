-- What is derived from a witness: the root, and the proof of the commit.
use Rattle.std.specs.Prelude.{◌≡◌, ℕ, ◌-◌, List, length, map}
use Rattle.tree_shape.specs.Hashing.{Hashing}
use Rattle.tree_shape.specs.Shape.{Shape, peaks, inactive}
use Rattle.tree_shape.specs.Slow.{node_of}
use Rattle.tree_shape.specs.Root.{root}
use Rattle.tree_shape.specs.declared.bagging.Bagging.TheVariants.{ForwardFold}
use Rattle.tree_proof.specs.Cover.{meets}
use Rattle.tree_proof.specs.SlowProof.{proof_of}
use Rattle.tree_proof.specs.declared.proof.Proof.{Proof}
use Rattle.witness_store.specs.declared.witness.Witness.{Witness}
use Rattle.compact_db.specs.declared.verified.VerifiedWitness.{VerifiedWitness}

-- The root of these leaves under a floor.
abbrev pub root_under : {D : Type 0} → Shape → Hashing D → List D → ℕ → D
root_under s h all floor = root s h all (inactive s (length all) floor) ForwardFold

module _ {F D : Type 0} (s : Shape) (h : Hashing D) where
  -- Of the leaves of a list that a commit of these bytes and this floor ends.
  abbrev pub verified_leaves : List D → List ℕ → ℕ → VerifiedWitness F D
  verified_leaves all bytes floor = record {
    witness = record {
      op_bytes = bytes;
      size = length all;
      pinned_nodes = map (node_of s h all) (peaks s (length all - 1));
    };
    root = root_under s h all floor;
    proof = proof_of s h all (inactive s (length all) floor) (meets (length all - 1) (length all));
  }

-- They are the witness of a state and the proof of its commit, where this is derived of the state.
abbrev pub IsShownOf : {F D : Type 0} → Witness F D → Proof F D → VerifiedWitness F D → Type 0
IsShownOf witness proof v = (witness ≡ v.witness) × (proof ≡ v.proof)
