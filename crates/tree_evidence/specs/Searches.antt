-- What the searches among the folds of two trees find.
use Rattle.std.specs.Prelude.{◌≡◌, ℕ, List, Option, Some, None}
use Rattle.tree_shape.specs.declared.bagging.Bagging.{Bagging}
use Rattle.tree_shape.specs.Hashing.{Hashing, fold_input}
use Rattle.tree_proof.specs.Inputs.{forward_inputs, backward_inputs, bagged_inputs, fold_inputs}
use Rattle.tree_evidence.specs.declared.pair.Pair.{Pair}
use Rattle.tree_evidence.specs.Evidence.{IsClash}

-- the inputs of one fold in each tree, where they differ
abbrev pub AreTheFold : {D : Type 0} → Hashing D → Pair D → Pair D → Option (List ℕ × List ℕ) → Type 0
AreTheFold h left right (Some r) =
    (r.0 ≡ fold_input h left.one right.one) × (r.1 ≡ fold_input h left.other right.other) × (r.0 ≡ r.1 → ⊥)
AreTheFold h left right None = (left.one ≡ left.other) × (right.one ≡ right.other)

-- a search among these inputs and those finds two that clash, or nothing, and then this holds
abbrev pub Finds : {D : Type 0} → Hashing D → List (List ℕ) → List (List ℕ) → Type 0 → Option (List ℕ × List ℕ) → Type 0
Finds h ones others same (Some r) = IsClash h ones others r.0 r.1
Finds h ones others same None = same

module _ {D : Type 0} (h : Hashing D) (first : Pair D) (ones others : List D) where
  -- it finds nothing only where what is folded is the same
  abbrev pub FindsFold : List (List ℕ) → List (List ℕ) → Option (List ℕ × List ℕ) → Type 0
  FindsFold inputs other_inputs r = Finds h inputs other_inputs ((first.one ≡ first.other) × (ones ≡ others)) r

  abbrev pub FindsForward : Option (List ℕ × List ℕ) → Type 0
  FindsForward r = FindsFold (forward_inputs h first.one ones) (forward_inputs h first.other others) r

  abbrev pub FindsBackward : Option (List ℕ × List ℕ) → Type 0
  FindsBackward r = FindsFold (backward_inputs h first.one ones) (backward_inputs h first.other others) r

  abbrev pub FindsBagged : Bagging → Option (List ℕ × List ℕ) → Type 0
  FindsBagged b r = FindsFold (bagged_inputs h b first.one ones) (bagged_inputs h b first.other others) r

-- among all folds of two lists of peaks, of which the first k are inactive
abbrev pub FindsFolded : {D : Type 0} → Hashing D → Bagging → ℕ → List D → List D → Option (List ℕ × List ℕ) → Type 0
FindsFolded h b k ones others r = Finds h (fold_inputs h b k ones) (fold_inputs h b k others) (ones ≡ others) r
