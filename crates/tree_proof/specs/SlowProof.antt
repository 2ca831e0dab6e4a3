-- Proofs of a list, from its slow nodes.
use Rattle.std.specs.Prelude.{ℕ, ◌<◌, ◌≤◌, ◌^◌, List, length}
use Rattle.tree_shape.specs.Hashing.{Hashing}
use Rattle.tree_shape.specs.Shape.{Shape}
use Rattle.tree_shape.specs.Slow.{leaf_digests}
use Rattle.tree_proof.specs.declared.proof.Proof.{Proof}
use Rattle.tree_proof.specs.Cover.{Opened, meets, cover_digests}

-- the proof of what is met in the tree of a list of leaf digests
abbrev pub proof_of : {F D : Type 0} → Shape → Hashing D → List D → ℕ → Opened → Proof F D
proof_of s h all inactive met = record {
  leaves = length all;
  inactive_peaks = inactive;
  digests = cover_digests s h all met (length all);
}

-- a range of the elements, and a number of their tree's peaks
pub record IsRange (s : Shape) (elements : List (List ℕ)) (inactive a b : ℕ) : Type 0 where
  pub some : a < b
  pub within : b ≤ length elements
  pub few : length elements ≤ 2 ^ 62
  pub peaks : inactive ≤ length (s.heights (length elements))

-- the proof of a range of a list of elements
abbrev pub slow_proof : {F D : Type 0} → Shape → Hashing D → List (List ℕ) → ℕ → ℕ → ℕ → Proof F D
slow_proof s h elements inactive a b = record {
  leaves = length elements;
  inactive_peaks = inactive;
  digests = cover_digests s h (leaf_digests s h elements) (meets a b) (length elements);
}
