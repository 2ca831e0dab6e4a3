-- What two lists of elements, and the roots of their trees, show of each other.
use Rattle.std.specs.Prelude.{◌≡◌, ℕ, List}
use Rattle.std.specs.List.{Contains}
use Rattle.tree_shape.specs.declared.bagging.Bagging.{Bagging}
use Rattle.tree_shape.specs.Hashing.{Hashing}
use Rattle.tree_shape.specs.Shape.{Shape}
use Rattle.tree_shape.specs.Slow.{leaf_digests}
use Rattle.tree_shape.specs.Root.{root}
use Rattle.tree_proof.specs.Inputs.{tree_inputs}
use Rattle.tree_evidence.specs.declared.answer.Clash.{Clash}
use Rattle.tree_evidence.specs.declared.answer.Clash.TheVariants as found

-- the first is one of these inputs, the second one of those; they differ, and have one digest
pub record IsClash {D : Type 0} (h : Hashing D) (ones others : List (List ℕ)) (x y : List ℕ) : Type 0 where
  pub has_first : Contains ones x
  pub has_second : Contains others y
  pub differ : x ≡ y → ⊥
  pub same_digest : h.digest x ≡ h.digest y

-- the root of a list of elements with k inactive peaks
abbrev pub root_of : {D : Type 0} → Shape → Hashing D → Bagging → List (List ℕ) → ℕ → D
root_of s h b elements k = root s h (leaf_digests s h elements) k b

-- What lists a and b, with j and k inactive peaks, show: that they are one, or that their roots differ, or two inputs of their trees that clash.
-- Each comes exactly where its line says, since no two of these conditions hold together.
abbrev pub IsEvidence : {D : Type 0} → Shape → Hashing D → Bagging → List (List ℕ) → List (List ℕ) → ℕ → ℕ → Clash D
    → Type 0
IsEvidence s h bagging a b j k found.Equal = (a ≡ b) × (j ≡ k)
IsEvidence s h bagging a b j k (found.RootsDiffer r q) =
    (r ≡ root_of s h bagging a j) × (q ≡ root_of s h bagging b k) × (r ≡ q → ⊥)
IsEvidence s h bagging a b j k (found.Clash x y) =
    ((a ≡ b) × (j ≡ k) → ⊥)
    × (root_of s h bagging a j ≡ root_of s h bagging b k)
    × IsClash h (tree_inputs s h a j bagging) (tree_inputs s h b k bagging) x y
